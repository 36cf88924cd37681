use Rattle.std.proofs.Common.{rules}
use Rattle.roll.specs.ReachRolls.{pairs_of}
use Rattle.roll.proofs.Currents.{table_decides}
use Rattle.roll.proofs.reach_roll.methods.ReachRollRoll.within.Goals as goal

pub returns : goal.returns
returns c =
    let x = c.args.self.now in
    table_decides (pairs_of x) x.table c.args.s c.args.g c.both_subjects.result c.is_ok_and.result _ x.current (λ p h. search rules) c.is_ok_and.ensures c.both_subjects.ensures
