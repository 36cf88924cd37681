use Rattle.std.proofs.Common.{[]}
use Rattle.roll.proofs.Rows.{JoinRow}
use Rattle.roll.proofs.Sweeps.{Swept}
use Rattle.roll.proofs.table.join.Given as goal

abbrev pub invariant-loop-s : goal.invariant-loop-s
invariant-loop-s l = Swept [] (JoinRow l.p.member l.above) l.initial.table l.table l.s
