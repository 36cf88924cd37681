use Rattle.rights.proofs.Worked.{worked_stands, worked_numbers}
use Rattle.rights.proofs.theorems.worked_sheet_stands.Goals as goal

pub returns-clause-stands : goal.returns-clause-stands
returns-clause-stands c = worked_stands

pub returns-clause-numbers : goal.returns-clause-numbers
returns-clause-numbers c = worked_numbers
