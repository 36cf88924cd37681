use Rattle.std.proofs.Common.{drop}
use Rattle.roll.specs.Walks.{left_over}
use Rattle.roll.proofs.Walks.{Walking}
use Rattle.roll.proofs.reached.Rising.walk.Given as goal

abbrev pub invariant-loop-m : goal.invariant-loop-m
invariant-loop-m l = Walking l.self.pairs.now l.s l.seen.marks (drop l.seen.next l.seen.found.items)

abbrev pub decreases-loop-m : goal.decreases-loop-m
decreases-loop-m l = left_over l.seen.marks (drop l.seen.next l.seen.found.items)
