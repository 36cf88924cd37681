use Rattle.std.proofs.Common.{refl}
use Rattle.sitting.specs.Today.{history_of}
use Rattle.sitting.proofs.Answering.{answered, closed}
use Rattle.sitting.proofs.words.work.Goals as goal

pub returns-in-Close-clause-answer : goal.returns-in-Close-clause-answer
returns-in-Close-clause-answer c = answered _ _ _ _ _ _ _ _ c.in-Close.is refl refl (closed (history_of c.args.catalogue.now))
