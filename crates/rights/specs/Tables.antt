-- The tables of a register: what stands under each number, what a view names, levels, and what is beneath.
use Rattle.std.specs.Prelude.{◌≡◌, ℕ, ◌+◌, max, cond, ◌⊎◌, List, [], ◌∷◌, Some, None, Option, ◌==◌, ◌≢◌}
use Rattle.rights.specs.Lists.{In}

-- a table's owner and the tables that it names, in rising number; a base table names none
pub record Table : Type 0 where
  pub owner : ℕ
  pub names : List ℕ

abbrev pub Tables : Type 0
Tables = ℕ → Option Table

abbrev pub no_tables : Tables
no_tables = λ _. None

-- the same with table r under t
abbrev pub made : ℕ → Table → Tables → Tables
made t r tables = λ n. cond (n == t) (Some r) (tables n)

-- the same without t
abbrev pub unmade : ℕ → Tables → Tables
unmade t tables = λ n. cond (n == t) None (tables n)

abbrev pub Stands : Tables → ℕ → Type 0
Stands tables t = (r : Table) × (tables t ≡ Some r)

abbrev pub IsBase : Tables → ℕ → Type 0
IsBase tables t = (r : Table) × (tables t ≡ Some r) × (r.names ≡ [])

abbrev pub IsView : Tables → ℕ → Type 0
IsView tables t = (r : Table) × (tables t ≡ Some r) × (r.names ≢ [])

abbrev pub Owns : Tables → ℕ → ℕ → Type 0
Owns tables x t = (r : Table) × (tables t ≡ Some r) × (r.owner ≡ x)

-- view v names table t directly
abbrev pub Names : Tables → ℕ → ℕ → Type 0
Names tables v t = (r : Table) × (tables v ≡ Some r) × In t r.names

-- t is beneath v: v names it, or names a view that it is beneath
pub data Beneath (tables : Tables) : ℕ → ℕ → Type 0 where
  named : {t v : ℕ} → Names tables v t → Beneath tables t v
  deeper : {t w v : ℕ} → Names tables v w → Beneath tables t w → Beneath tables t v

-- the table itself, or one beneath it
abbrev pub AtOrBeneath : Tables → ℕ → ℕ → Type 0
AtOrBeneath tables b t = (b ≡ t) ⊎ Beneath tables b t

-- a base table has level 0, a view one more than the highest level among the tables it names
mutual
  pub data Level (tables : Tables) : ℕ → ℕ → Type 0 where
    level : {t n : ℕ} {r : Table} → tables t ≡ Some r → LevelOver tables r.names n → Level tables t n

  -- one more than the highest level in the list; 0 where the list is empty
  pub data LevelOver (tables : Tables) : List ℕ → ℕ → Type 0 where
    over_none : LevelOver tables [] 0
    over_more : {d k n : ℕ} {ds : List ℕ} → Level tables d k → LevelOver tables ds n → LevelOver tables (d ∷ ds) (max (k + 1) n)

-- every table that stands has a level, so no view is beneath itself and whatever is named stands
abbrev pub Levelled : Tables → Type 0
Levelled tables = (t : ℕ) → Stands tables t → (n : ℕ) × Level tables t n

-- whatever stands in the one stands in the other
abbrev pub Extends : Tables → Tables → Type 0
Extends tables more = (t : ℕ) (r : Table) → tables t ≡ Some r → more t ≡ Some r
