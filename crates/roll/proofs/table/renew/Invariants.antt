use Rattle.std.proofs.Common.{[]}
use Rattle.roll.specs.PairRolls.{pairs_of}
use Rattle.roll.proofs.Rows.{RenewRow}
use Rattle.roll.proofs.Sweeps.{Swept}
use Rattle.roll.proofs.table.renew.Given as goal

abbrev pub invariant-loop-s : goal.invariant-loop-s
invariant-loop-s l = Swept [] (RenewRow (pairs_of l.pairs) l.m) l.initial.table l.table l.s
