-- A walk over pairs: which subjects are marked, and which of them are still to be followed.
-- Marks: what a step of the walk did. Reaches: what the whole walk comes to.
use Rattle.std.specs.Prelude.{◌≡◌, ◌↔◌, ℕ, ◌+◌, ◌*◌, ◌≤◌, Bool, true, false, cond, ◌⊎◌, List, [], ◌∷◌, length, IsTrue, Contains, slice_index_or}
use Rattle.rights.specs.declared.entries.Pair.{Pair}
use Rattle.rights.specs.Within.{Within}

-- subject h is marked
abbrev pub Marked : List Bool → ℕ → Type 0
Marked marks h = slice_index_or marks h false ≡ true

-- how many places are not marked
unfoldable pub unmarked : List Bool → ℕ
unmarked [] = 0
unmarked (b ∷ bs) = cond b 0 1 + unmarked bs

-- how far a walk is from its end: less with each subject that is marked or followed
abbrev pub left_over : List Bool → List ℕ → ℕ
left_over marks todo = 2 * unmarked marks + length todo

-- the subjects of P were marked too, and those of them that were new are now to be followed
pub record Marks (P : ℕ → Type 0) (old new : List Bool) (todo after : List ℕ) : Type 0 where
  pub grows : (h : ℕ) → Marked old h → Marked new h
  pub takes : (h : ℕ) → P h → Marked new h
  pub only : (h : ℕ) → Marked new h → Marked old h ⊎ (P h × Contains after h)
  pub stays : (h : ℕ) → Contains todo h → Contains after h
  pub listed : (h : ℕ) → Contains after h → Contains todo h ⊎ Marked new h
  pub less : left_over new after ≤ left_over old todo

-- marked is all that s is within, and nothing else
abbrev pub Reaches : List Pair → ℕ → List Bool → Type 0
Reaches ps s marks = (h : ℕ) → IsTrue (slice_index_or marks h false) ↔ Within ps s h
