-- What a put and a taking make of a book's rising list of entries, and when they refuse.
-- with_entry: the list with e in its place. without_entry: the list without e.
-- put_checks, take_checks, make_checks: the refusals of each call in their order.
-- Kept: what every book keeps.
use Rattle.std.specs.Prelude.{◌≡◌, ℕ, ◌≤◌, cond, ◌⊎◌, List, [], ◌∷◌, length, Some, None}
use Rattle.std.specs.List.{AllByRecursion}
use Rattle.rights.specs.declared.entries.Entry.{Entry}
use Rattle.rights.specs.declared.faults.BookFault.{BookFault}
use Rattle.rights.specs.Checks.{Check, refuse, First}
use Rattle.rights.specs.Entries.{Proper, RisingEntries, before, same_entry}
use Rattle.rights.specs.Lists.{In}
use Rattle.rising.specs.Rooms.{lent_checks}

unfoldable pub with_entry : Entry → List Entry → List Entry
with_entry e [] = e ∷ []
with_entry e (f ∷ fs) = cond (before e f) (e ∷ f ∷ fs) (f ∷ with_entry e fs)

unfoldable pub without_entry : Entry → List Entry → List Entry
without_entry e [] = []
without_entry e (f ∷ fs) = cond (same_entry e f) fs (f ∷ without_entry e fs)

-- a number out of range; it stands already; the count equals the ceiling
abbrev pub put_checks : List Entry → ℕ → Entry → List (Check BookFault)
put_checks es most e =
    refuse BookFault.BadNumber (Proper e → ⊥) ∷ refuse BookFault.Taken (In e es) ∷ refuse BookFault.Full (length es ≡ most) ∷ []

-- a number out of range; it does not stand
abbrev pub take_checks : List Entry → Entry → List (Check BookFault)
take_checks es e = refuse BookFault.BadNumber (Proper e → ⊥) ∷ refuse BookFault.Absent (In e es → ⊥) ∷ []

-- a list shorter than the ceiling wanted; a ceiling of 0 or above 4,096
abbrev pub make_checks : ℕ → ℕ → List (Check BookFault)
make_checks = lent_checks BookFault.ShortList BookFault.BadNumber 4096

-- the ceiling of a book made over a list of that room: the one wanted, or 0 where the check refuses
abbrev pub Ceiling : ℕ → ℕ → ℕ → Type 0
Ceiling room wanted most =
    (First (make_checks room wanted) None × (most ≡ wanted)) ⊎ ((f : BookFault) × First (make_checks room wanted) (Some f) × (most ≡ 0))

-- what every book keeps: its entries rise, are proper, and are no more than its ceiling, itself at most 4,096
pub record Kept (es : List Entry) (most : ℕ) : Type 0 where
  pub rising : RisingEntries es
  pub proper : AllByRecursion Proper es
  pub within : length es ≤ most
  pub limited : most ≤ 4096
