-- What each function of the table does to a row.
use Rattle.std.proofs.Common.{◌≡◌, ℕ, ◌<◌, Bool, true, false, ◌&&◌, ◌||◌, List, get_or, Decides}
use Rattle.rights.specs.declared.entries.Pair.{Pair}
use Rattle.rights.specs.Within.{Within}

abbrev pub JoinRow : ℕ → List Bool → ℕ → List Bool → List Bool → Type 0
JoinRow m above k row new = (h : ℕ) → h < 256 → get_or new h false ≡ (get_or row h false || (get_or row m false && get_or above h false))

pub record RenewRow (ps : List Pair) (m k : ℕ) (row new : List Bool) : Type 0 where
  pub anew : get_or row m false ≡ true → (h : ℕ) → Decides (get_or new h false) (Within ps k h)
  pub stays : get_or row m false ≡ false → (h : ℕ) → get_or new h false ≡ get_or row h false
