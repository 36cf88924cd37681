use Rattle.rights.specs.Pairs.{pair, Proper}
use Rattle.roll.specs.PairRolls.{pairs_of}
use Rattle.roll.proofs.Lists.{all_in}
use Rattle.roll.proofs.Puts.{take_decides}
use Rattle.roll.proofs.pair_roll.methods.PairRollRoll.stands.Goals as goal

pub returns : goal.returns
returns c =
    let x = c.args.self.now in
    take_decides (pairs_of x) c.args.m c.args.g c.place.result c.is_ok.result (all_in Proper (pairs_of x) (pair c.args.m c.args.g) x.kept.sound.proper) c.place.ensures.refuses c.place.ensures.stands c.is_ok.ensures.value
