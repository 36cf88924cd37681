use Rattle.std.proofs.Common.{[], rules}
use Rattle.roll.specs.Tables.{RowOf}
use Rattle.rights.proofs.Arrays.{made_at}
use Rattle.roll.proofs.Currents.{current_none}
use Rattle.roll.proofs.table.alone.Goals as goal

pub returns : goal.returns
returns c = current_none c.from_fn.result (λ s h ls lh. (made_at _ RowOf _ (λ i y q called. search rules) c.from_fn.result [] 256 c.from_fn.ensures.items s ls).alone h lh)
