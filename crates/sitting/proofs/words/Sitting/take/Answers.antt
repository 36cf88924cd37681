use Rattle.std.proofs.Common.{ap}
use Rattle.sitting.specs.Today.{state_of}
use Rattle.sitting.proofs.Answering.{late_closed}
use Rattle.sitting.proofs.words.Sitting.take.Goals as goal

pub returns-in-Closed-clause-answer : goal.returns-in-Closed-clause-answer
returns-in-Closed-clause-answer c = rw c.not_taken.ensures (late_closed _ _ _ (ap state_of c.in-Closed.is))
