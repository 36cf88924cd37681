use Rattle.roll.proofs.Currents.{only_row}
use Rattle.roll.proofs.table.row_of.Goals as goal

pub returns : goal.returns
returns c = only_row c.args.s c.requires
