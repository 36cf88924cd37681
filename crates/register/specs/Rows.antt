-- The catalogue's rows of records, what they mean, and what every catalogue keeps to.
-- subjects_of, tables_of: the meaning. NoOffice, Owned, Few, BlankRest, Standing, RisingNames, Levelled, Low: the invariant.
use Rattle.std.specs.Prelude.{◌≡◌, ℕ, ◌+◌, ◌≤◌, max, Bool, true, false, ◌&&◌, List, [], ◌∷◌, take, is_some, Some, None, Option, nat_lt, slice_index_or}
use Rattle.std.specs.Option.{option_map}
use Rattle.rights.specs.declared.records.Subject.{Subject}
use Rattle.rights.specs.declared.records.TableRecord.{TableRecord}
use Rattle.rights.specs.Subjects.{Subjects}
use Rattle.rights.specs.Tables.{Table, Tables}

-- the tables that a record names
abbrev pub names_of : TableRecord → List ℕ
names_of r = take r.count r.names

abbrev pub table_of : TableRecord → Table
table_of r = record { owner = r.owner; names = names_of r }

abbrev pub subjects_of : List (Option Subject) → Subjects
subjects_of ss = λ n. slice_index_or ss n None

abbrev pub tables_of : List (Option TableRecord) → Tables
tables_of ts = λ t. option_map table_of (slice_index_or ts t None)

abbrev pub is_person : Option Subject → Bool
is_person None = false
is_person (Some (Subject.Person mark)) = true
is_person (Some Subject.Group) = false

-- the level that is written down for a table, 0 where none stands
abbrev pub level_at : Option TableRecord → ℕ
level_at None = 0
level_at (Some r) = r.level

-- one more than the highest level written down for these tables, 0 where there are none
abbrev pub level_over : List (Option TableRecord) → List ℕ → ℕ
level_over ts [] = 0
level_over ts (d ∷ ds) = max (level_at (slice_index_or ts d None) + 1) (level_over ts ds)

-- every table of the list stands
abbrev pub stand : List (Option TableRecord) → List ℕ → Bool
stand ts [] = true
stand ts (d ∷ ds) = is_some (slice_index_or ts d None) && stand ts ds

-- the numbers rise strictly
abbrev pub rise : List ℕ → Bool
rise [] = true
rise (d ∷ []) = true
rise (d ∷ e ∷ ds) = nat_lt d e && rise (e ∷ ds)

-- the office is no subject
abbrev pub NoOffice : List (Option Subject) → Type 0
NoOffice ss = is_some (slice_index_or ss 0 None) ≡ false

-- an owner is a registered person
abbrev pub Owned : List (Option Subject) → List (Option TableRecord) → Type 0
Owned ss ts = (t : ℕ) (r : TableRecord) → slice_index_or ts t None ≡ Some r → is_person (slice_index_or ss r.owner None) ≡ true

-- a table names at most 8 tables, which stand, in strictly rising number
abbrev pub Few : List (Option TableRecord) → Type 0
Few ts = (t : ℕ) (r : TableRecord) → slice_index_or ts t None ≡ Some r → r.count ≤ 8

-- past the tables that a record names its list is 0
abbrev pub BlankPast : TableRecord → Type 0
BlankPast r = (k : ℕ) → r.count ≤ k → slice_index_or r.names k 0 ≡ 0

abbrev pub BlankRest : List (Option TableRecord) → Type 0
BlankRest ts = (t : ℕ) (r : TableRecord) → slice_index_or ts t None ≡ Some r → BlankPast r

abbrev pub Standing : List (Option TableRecord) → Type 0
Standing ts = (t : ℕ) (r : TableRecord) → slice_index_or ts t None ≡ Some r → stand ts (names_of r) ≡ true

abbrev pub RisingNames : List (Option TableRecord) → Type 0
RisingNames ts = (t : ℕ) (r : TableRecord) → slice_index_or ts t None ≡ Some r → rise (names_of r) ≡ true

-- a table's level is one more than the highest level that it names, 0 if it names none, and at most 7
abbrev pub Levelled : List (Option TableRecord) → Type 0
Levelled ts = (t : ℕ) (r : TableRecord) → slice_index_or ts t None ≡ Some r → r.level ≡ level_over ts (names_of r)

abbrev pub Low : List (Option TableRecord) → Type 0
Low ts = (t : ℕ) (r : TableRecord) → slice_index_or ts t None ≡ Some r → r.level ≤ 7
