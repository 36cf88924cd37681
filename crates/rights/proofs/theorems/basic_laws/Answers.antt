use Rattle.rights.proofs.Basics as laws
use Rattle.rights.proofs.theorems.basic_laws.Goals as goal

pub returns-clause-laws : goal.returns-clause-laws
returns-clause-laws c = laws.basic_laws
