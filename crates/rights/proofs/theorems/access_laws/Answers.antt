use Rattle.rights.proofs.Laws as laws
use Rattle.rights.proofs.Scenes.{examples_answered}
use Rattle.rights.proofs.theorems.access_laws.Goals as goal

pub returns-clause-laws : goal.returns-clause-laws
returns-clause-laws c = laws.access_laws

pub returns-clause-answered : goal.returns-clause-answered
returns-clause-answered c = examples_answered
