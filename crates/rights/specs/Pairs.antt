-- The order of pairs, and which pairs a roll may hold.
-- Before: by member, then by group. Proper: both numbers are subjects'.
use Rattle.std.specs.Prelude.{◌≡◌, ℕ, ◌<◌, ◌≤◌, List}
use Rattle.rights.specs.declared.entries.Pair.{Pair}
use Rattle.rights.specs.Lists.{Rising}
use Rattle.rights.specs.Numbers.{SubjectNumber}

abbrev pub pair : ℕ → ℕ → Pair
pair m g = record { member = m; group = g }

-- the lesser member comes first, and of one member's pairs the lesser group
abbrev pub Before : Pair → Pair → Type 0
Before p q = (p.member ≤ q.member) × (p.member ≡ q.member → p.group < q.group)

abbrev pub Proper : Pair → Type 0
Proper p = SubjectNumber p.member × SubjectNumber p.group

abbrev pub RisingPairs : List Pair → Type 0
RisingPairs ps = Rising Before ps
