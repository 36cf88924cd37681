use Rattle.rights.specs.declared.faults.RollFault.{RollFault}
use Rattle.roll.specs.PairRolls.{pairs_of}
use Rattle.roll.proofs.Places.{found_gap}
use Rattle.roll.proofs.pair_roll.PairRoll.gap.Goals as goal

pub returns : goal.returns
returns c = found_gap (pairs_of c.args.self.now) c.args.p RollFault.Taken c.find.result c.err.result c.ok_or.result c.find.ensures c.err.ensures.value c.ok_or.ensures.value
