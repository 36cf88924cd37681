use Rattle.std.proofs.Common.{refl}
use Rattle.book.specs.Cells.{has}
use Rattle.book.proofs.keyed.Cell.is_set.Goals as goal

pub returns : goal.returns
unfolding has
returns c = refl
