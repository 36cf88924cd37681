-- What a cell book holds.
-- Becomes: what a change makes of a cell book.
use Rattle.std.specs.Prelude.{◌≡◌, ℕ, List}
use Rattle.rights.specs.declared.entries.Entry.{Entry}
use Rattle.rights.proofs.Order.{sound_rises, sound_proper}
use Rattle.book.specs.declared.keyed.Cell.{Cell}
use Rattle.book.specs.declared.packed.Cells.{Cells}
use Rattle.book.specs.Cells.{held}
use Rattle.book.specs.Effects.{Kept}
use Rattle.rising.specs.Fronts.{stored, whole}
use Rattle.rising.specs.Fronts as fronts

-- the cells that stand
abbrev pub cells : Cells → List Cell
cells b = stored b.front

-- the entries that they hold
abbrev pub packed : Cells → List Entry
packed b = held (cells b)

-- the most entries that may stand
abbrev pub most_packed : Cells → ℕ
most_packed b = b.ceiling

-- the caller's list, past what is used too
abbrev pub list_packed : Cells → List Cell
list_packed b = whole b.front

-- past what is used after, the caller's list holds what it held
abbrev pub SameRest : Cells → Cells → Type 0
SameRest b after = fronts.SameRest b.front after.front

-- after the change the entries es stand, under the same ceiling, and the rest of the list is as it was
pub record Becomes (b : Cells) (es : List Entry) (after : Cells) : Type 0 where
  pub stand : packed after ≡ es
  pub ceiling : most_packed after ≡ most_packed b
  pub rest : SameRest b after

-- a cell book keeps what every book keeps
pub cell_laws : (b : Cells) → Kept (packed b) (most_packed b)
cell_laws b = record {
  rising = sound_rises (packed b) b.rises;
  proper = sound_proper (packed b) b.rises;
  within = b.counted;
  limited = b.limited;
}
