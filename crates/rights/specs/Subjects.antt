-- The subjects of a register: what is registered under each number.
use Rattle.std.specs.Prelude.{◌≡◌, ℕ, Bool, true, cond, Some, None, Option, ◌==◌}
use Rattle.rights.specs.declared.records.Subject.{Subject}

abbrev pub Subjects : Type 0
Subjects = ℕ → Option Subject

-- nobody is registered
abbrev pub no_subjects : Subjects
no_subjects = λ _. None

-- the same with r registered under n
abbrev pub enrolled : ℕ → Subject → Subjects → Subjects
enrolled n r subjects = λ m. cond (m == n) (Some r) (subjects m)

abbrev pub Registered : Subjects → ℕ → Type 0
Registered subjects n = (r : Subject) × (subjects n ≡ Some r)

abbrev pub IsPerson : Subjects → ℕ → Type 0
IsPerson subjects n = (mark : Bool) × (subjects n ≡ Some (Subject.Person mark))

abbrev pub IsGroup : Subjects → ℕ → Type 0
IsGroup subjects n = subjects n ≡ Some Subject.Group

-- a person with the creator's mark
abbrev pub IsCreator : Subjects → ℕ → Type 0
IsCreator subjects n = subjects n ≡ Some (Subject.Person true)
