use Rattle.std.proofs.Common.{refl, rules}
use Rattle.sitting.specs.Today.{history_of}
use Rattle.sitting.proofs.Answering.{answered, opened, not_opened}
use Rattle.sitting.proofs.words.prepare.Goals as goal

pub returns-in-Ok-clause-answer : goal.returns-in-Ok-clause-answer
returns-in-Ok-clause-answer c = answered _ _ _ _ _ _ _ _ c.in-Open.is refl refl (opened (history_of c.args.catalogue.now) c.in-Ok.ensures.verdict)

pub returns-in-Err-clause-answer : goal.returns-in-Err-clause-answer
returns-in-Err-clause-answer c = answered _ _ _ _ _ _ _ _ c.in-Open.is (search rules) refl (not_opened (history_of c.args.catalogue.now) c.in-Err.fault c.in-Err.ensures.verdict)
