-- The check of a list before a book or a roll is made over it: lent_checks, its refusals in their order, by whatever
-- words they are given; room_checks, with the words of this crate. Granted: the ceiling that comes of it.
use Rattle.std.specs.Prelude.{◌≡◌, ℕ, ◌<◌, ◌⊎◌, List, [], ◌∷◌, Some, None}
use Rattle.rights.specs.declared.faults.RoomFault.{RoomFault}
use Rattle.rights.specs.Checks.{Check, First, refuse}

-- short for a list of fewer places than the ceiling wanted; bad for a ceiling of 0 or above the limit
abbrev pub lent_checks : {F : Type 0} → F → F → ℕ → ℕ → ℕ → List (Check F)
lent_checks short bad limit places wanted = refuse short (places < wanted) ∷ refuse bad ((wanted ≡ 0) ⊎ (limit < wanted)) ∷ []

abbrev pub room_checks : ℕ → ℕ → ℕ → List (Check RoomFault)
room_checks = lent_checks RoomFault.ShortList RoomFault.BadNumber

-- the ceiling wanted, or 0 where the check refuses
pub record Granted (limit places wanted ceiling : ℕ) : Type 0 where
  pub fits : First (room_checks limit places wanted) None → ceiling ≡ wanted
  pub refused : (f : RoomFault) → First (room_checks limit places wanted) (Some f) → ceiling ≡ 0
