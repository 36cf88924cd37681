-- A table of who is within whom: a row for each number, and in it a place for each number.
use Rattle.std.specs.Prelude.{◌≡◌, ◌↔◌, ℕ, ◌<◌, Bool, true, false, ◌&&◌, ◌||◌, ◌==◌, List, [], IsTrue, slice_index_or}
use Rattle.rights.specs.declared.entries.Pair.{Pair}
use Rattle.rights.specs.Within.{Within}

-- what the table says of s and h
abbrev pub says : List (List Bool) → ℕ → ℕ → Bool
says table s h = slice_index_or (slice_index_or table s []) h false

-- the table says yes exactly where some path leads
abbrev pub Current : List Pair → List (List Bool) → Type 0
Current pairs table = (s h : ℕ) → s < 256 → h < 256 → IsTrue (says table s h) ↔ Within pairs s h

-- a row with s alone
pub record RowOf (s : ℕ) (row : List Bool) : Type 0 where
  pub alone : (h : ℕ) → h < 256 → slice_index_or row h false ≡ (s == h)

-- two rows in one
abbrev pub Merged : List Bool → List Bool → List Bool → Type 0
Merged row above new = (h : ℕ) → h < 256 → slice_index_or new h false ≡ (slice_index_or row h false || slice_index_or above h false)

-- whoever is within m is also within all that g is within
abbrev pub Joined : ℕ → ℕ → List (List Bool) → List (List Bool) → Type 0
Joined m g old new = (s h : ℕ) → s < 256 → h < 256 → says new s h ≡ (says old s h || (says old s m && says old g h))

-- the rows of all that was within m are found anew, the others stay
pub record Renewed (pairs : List Pair) (m : ℕ) (old new : List (List Bool)) : Type 0 where
  pub anew : (s : ℕ) → s < 256 → says old s m ≡ true → (h : ℕ) → IsTrue (says new s h) ↔ Within pairs s h
  pub stays : (s : ℕ) → s < 256 → says old s m ≡ false → (h : ℕ) → says new s h ≡ says old s h
