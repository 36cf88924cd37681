-- What a roll refuses, in order, and what it answers about numbers out of range.
use Rattle.std.specs.Prelude.{◌≡◌, ℕ, List, [], ◌∷◌, length, Some, None}
use Rattle.rights.specs.declared.entries.Pair.{Pair}
use Rattle.rights.specs.declared.faults.RollFault.{RollFault}
use Rattle.rights.specs.Checks.{Check, First, refuse}
use Rattle.rights.specs.Lists.{In}
use Rattle.rights.specs.Numbers.{SubjectNumber}
use Rattle.rights.specs.Pairs.{pair, Proper}
use Rattle.rights.specs.Within.{Within}
use Rattle.rising.specs.Rooms.{lent_checks}

-- both are numbers of subjects
abbrev pub BothSubjects : ℕ → ℕ → Type 0
BothSubjects m g = SubjectNumber m × SubjectNumber g

-- a roll's within: out of range it is never so, though every path from s to s is s alone
abbrev pub WithinRoll : List Pair → ℕ → ℕ → Type 0
WithinRoll pairs s g = SubjectNumber s × SubjectNumber g × Within pairs s g

-- the last check of a put
abbrev pub full_checks : List Pair → ℕ → List (Check RollFault)
full_checks pairs ceiling = refuse RollFault.Full (length pairs ≡ ceiling) ∷ []

-- a pair that may be added: in range, new, and without a loop
pub record Addable (pairs : List Pair) (p : Pair) : Type 0 where
  pub proper : Proper p
  pub new : In p pairs → ⊥
  pub apart : Within pairs p.group p.member → ⊥

abbrev pub put_checks : List Pair → ℕ → ℕ → ℕ → List (Check RollFault)
put_checks pairs ceiling m g =
    refuse RollFault.BadNumber (BothSubjects m g → ⊥)
    ∷ refuse RollFault.Taken (In (pair m g) pairs)
    ∷ refuse RollFault.Loop (Within pairs g m)
    ∷ refuse RollFault.Full (length pairs ≡ ceiling)
    ∷ []

abbrev pub take_checks : List Pair → ℕ → ℕ → List (Check RollFault)
take_checks pairs m g =
    refuse RollFault.BadNumber (BothSubjects m g → ⊥)
    ∷ refuse RollFault.Absent (In (pair m g) pairs → ⊥)
    ∷ []

-- before a roll is made: a list of so many places, and the ceiling wanted
abbrev pub make_checks : ℕ → ℕ → List (Check RollFault)
make_checks = lent_checks RollFault.ShortList RollFault.BadNumber 2048

-- the ceiling of a roll as it was made: the one wanted, or 0 where the check refuses
pub record Granted (places wanted ceiling : ℕ) : Type 0 where
  pub fits : First (make_checks places wanted) None → ceiling ≡ wanted
  pub refused : (f : RollFault) → First (make_checks places wanted) (Some f) → ceiling ≡ 0
