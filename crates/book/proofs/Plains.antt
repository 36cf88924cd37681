-- What a plain book keeps when its front changes.
use Rattle.std.proofs.Common.{◌≡◌, ℕ, ◌<◌, ◌≤◌, true, List, length, Ok, Err, sym, ap, ◌∙◌, arith}
use Rattle.std.specs.List.{insert, remove, AllByRecursion}
use Rattle.std.proofs.lemmas.List.Edits.{length-insert, length-remove}
use Rattle.rights.specs.declared.entries.Entry.{Entry}
use Rattle.rights.specs.Entries.{Proper, RisingEntries, sound}
use Rattle.rights.proofs.Order.{sound_from, sound_rises, sound_proper}
use Rattle.book.specs.declared.plain.Plain.{Plain}
use Rattle.rising.specs.declared.fronts.Front.{Front}
use Rattle.rising.specs.Fronts.{stored, whole, Refilled}
use Rattle.book.specs.Effects.{with_entry, without_entry}
use Rattle.book.specs.Places.{Finding}
use Rattle.book.specs.Standing.{standing}
use Rattle.book.proofs.Finds.{parts_with, stands_without, rising_inserted, proper_inserted, rising_removed, all_removed}

abbrev pub KeptPlain : Front Entry → ℕ → Type 0
KeptPlain f ceiling = record { counted : length (stored f) ≤ ceiling; room : ceiling ≤ length (whole f); limited : ceiling ≤ 4096; rises : sound (stored f) ≡ true }

pub kept_plain : (b : Plain) (after : Front Entry) (es : List Entry) → Refilled b.front es after → RisingEntries es → AllByRecursion Proper es → length es ≤ b.ceiling → KeptPlain after b.ceiling
kept_plain b after es to up all few =
    record { counted = omega (arith, ap length to.holds); room = omega (arith, to.long, b.room); limited = b.limited; rises = ap sound to.holds ∙ sound_from es up all }

-- e stands nowhere, and there is room for it at its place k
module _ (b : Plain) (e : Entry) (k : ℕ) (found : Finding e (standing b) (Err k)) (room : length (standing b) ≡ b.ceiling → ⊥) where
  pub put_fits : (k ≤ length (standing b)) × (length (standing b) < length (whole b.front))
  put_fits = (found.1.within, omega (arith, b.counted, b.room, room))

  module _ (after : Front Entry) (to : Refilled b.front (insert (standing b) k e) after) where
    pub put_kept : Proper e → KeptPlain after b.ceiling
    put_kept good =
        let more = length-insert (standing b) k e found.1.within in
        kept_plain b after _ to (rising_inserted e (standing b) k found.1 found.0 (sound_rises (standing b) b.rises))
        (proper_inserted e (standing b) k found.1 found.0 good (sound_proper (standing b) b.rises)) (omega (arith, b.counted, room))

    pub put_stands : stored after ≡ with_entry e (standing b)
    put_stands = to.holds ∙ sym (parts_with e (standing b) k found.1 found.0)

-- e stands at k
module _ (b : Plain) (e : Entry) (k : ℕ) (found : Finding e (standing b) (Ok k)) (after : Front Entry) (to : Refilled b.front (remove (standing b) k) after) where
  pub take_kept : KeptPlain after b.ceiling
  take_kept =
      let less = length-remove (standing b) k found.0 in
      kept_plain b after _ to (rising_removed (standing b) k (sound_rises (standing b) b.rises)) (all_removed Proper (standing b) k (sound_proper (standing b) b.rises)) (omega (arith, b.counted))

  pub take_stands : stored after ≡ without_entry e (standing b)
  take_stands = to.holds ∙ sym (stands_without e (standing b) k (sound_rises (standing b) b.rises) found.0 found.1)
