-- Paths through the groups, and who is within whom.
-- Path: the subjects of one chain of pairs, with both ends. Within: some path leads there.
use Rattle.std.specs.Prelude.{ℕ, List, [], ◌∷◌}
use Rattle.rights.specs.declared.entries.Pair.{Pair}
use Rattle.rights.specs.Lists.{In}

-- l lists the subjects of a chain of pairs from s to g; from s to s it is s alone
pub data Path (pairs : List Pair) : ℕ → ℕ → List ℕ → Type 0 where
  here : {s : ℕ} → Path pairs s s (s ∷ [])
  step : {m h g : ℕ} {l : List ℕ} → In (record { member = m; group = h }) pairs → Path pairs h g l → Path pairs m g (m ∷ l)

unfoldable pub Within : List Pair → ℕ → ℕ → Type 0
Within pairs s g = (l : List ℕ) × Path pairs s g l

-- a chain of at least one pair leads from s to g
unfoldable pub Below : List Pair → ℕ → ℕ → Type 0
Below pairs s g = (h : ℕ) × In (record { member = s; group = h }) pairs × Within pairs h g

-- no subject is its own member, directly or through others
unfoldable pub Loopless : List Pair → Type 0
Loopless pairs = (s : ℕ) → Below pairs s s → ⊥
