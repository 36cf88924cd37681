use Rattle.std.proofs.Common.{◌+◌, drop}
use Rattle.rights.specs.Pairs.{pair}
use Rattle.roll.specs.Walks.{Marks}
use Rattle.roll.proofs.Spreads.{Among}
use Rattle.roll.proofs.reached.Rising.spread.Given as goal

abbrev pub invariant-loop-p : goal.invariant-loop-p
invariant-loop-p l = Marks (λ h. Among l.self.pairs.now (l.first + l.p-index) (pair l.m h)) l.initial.seen.marks l.seen.marks (drop l.initial.seen.next l.initial.seen.found.items) (drop l.seen.next l.seen.found.items)
