-- What a plain book holds.
use Rattle.std.specs.Prelude.{ℕ, List}
use Rattle.rights.specs.declared.entries.Entry.{Entry}
use Rattle.rights.proofs.Order.{sound_rises, sound_proper}
use Rattle.book.specs.declared.plain.Plain.{Plain}
use Rattle.book.specs.Effects.{Kept}
use Rattle.rising.specs.Fronts.{stored, whole}
use Rattle.rising.specs.Fronts as fronts

-- the entries that stand
abbrev pub standing : Plain → List Entry
standing b = stored b.front

-- the most that may stand
abbrev pub most_standing : Plain → ℕ
most_standing b = b.ceiling

-- the caller's list, past what is used too
abbrev pub list_standing : Plain → List Entry
list_standing b = whole b.front

-- past what is used after, the caller's list holds what it held
abbrev pub SameRest : Plain → Plain → Type 0
SameRest b after = fronts.SameRest b.front after.front

-- a plain book keeps what every book keeps
pub plain_laws : (b : Plain) → Kept (standing b) (most_standing b)
plain_laws b = record {
  rising = sound_rises (standing b) b.rises;
  proper = sound_proper (standing b) b.rises;
  within = b.counted;
  limited = b.limited;
}
