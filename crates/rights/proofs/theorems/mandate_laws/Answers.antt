use Rattle.rights.proofs.Contrasts.{shows_delegates, shows_oneself, each_other, itself, shows_every_named, shows_one_entry}
use Rattle.rights.proofs.Mandates as laws
use Rattle.rights.proofs.theorems.mandate_laws.Goals as goal

pub returns-clause-laws : goal.returns-clause-laws
returns-clause-laws c = laws.mandate_laws

pub returns-clause-runs : goal.returns-clause-runs
returns-clause-runs c = laws.run_laws

pub returns-clause-delegates : goal.returns-clause-delegates
returns-clause-delegates c = shows_delegates

pub returns-clause-oneself : goal.returns-clause-oneself
returns-clause-oneself c = shows_oneself

pub returns-clause-circle : goal.returns-clause-circle
returns-clause-circle c = each_other

pub returns-clause-alone : goal.returns-clause-alone
returns-clause-alone c = itself

pub returns-clause-covered : goal.returns-clause-covered
returns-clause-covered c = shows_every_named

pub returns-clause-ranked : goal.returns-clause-ranked
returns-clause-ranked c = shows_one_entry
