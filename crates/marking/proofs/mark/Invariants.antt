use Rattle.std.proofs.Common.{vec_items}
use Rattle.sitting.specs.Today.{state_of, history_of}
use Rattle.marking.proofs.Sofar.{Sofar}
use Rattle.marking.proofs.mark.Given as goal

abbrev pub invariant-loop-line : goal.invariant-loop-line
invariant-loop-line l = Sofar l.sheet l.line-iterator (state_of l.sitting) (history_of l.catalogue) (vec_items l.out)
