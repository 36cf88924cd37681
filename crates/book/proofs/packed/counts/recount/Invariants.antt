use Rattle.book.proofs.Counts.{Counting}
use Rattle.book.proofs.packed.counts.recount.Given as goal

abbrev pub invariant-loop-k : goal.invariant-loop-k
invariant-loop-k l = Counting l.initial.front l.front l.k l.count
