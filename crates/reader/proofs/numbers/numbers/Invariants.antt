use Rattle.reader.specs.Reading.{left}
use Rattle.reader.proofs.Series.{Sofar}
use Rattle.reader.proofs.numbers.numbers.Given as goal

abbrev pub invariant-loop-part : goal.invariant-loop-part
invariant-loop-part l = Sofar (left l.fn.parts) l.list.items (left l.part-iterator)
