-- Where a pair stands in a rising list, or would stand.
use Rattle.std.specs.Prelude.{◌≡◌, ℕ, ◌<◌, ◌≤◌, List, length, Some, slice_get}
use Rattle.std.specs.List.{AllWithin}
use Rattle.rights.specs.declared.entries.Pair.{Pair}
use Rattle.rights.specs.Pairs.{Before}

-- p stands at place k
abbrev pub StandsAt : List Pair → Pair → ℕ → Type 0
StandsAt ps p k = slice_get ps k ≡ Some p

-- k places of the list come before p, and p before all others: p does not stand, and would stand there
pub record Gap (ps : List Pair) (p : Pair) (k : ℕ) : Type 0 where
  pub inside : k ≤ length ps
  pub below : AllWithin (λ q. Before q p) ps 0 k
  pub above : AllWithin (Before p) ps k (length ps)

-- the pairs of m begin at place k, or would begin there
pub record Start (ps : List Pair) (m k : ℕ) : Type 0 where
  pub below : AllWithin (λ q. q.member < m) ps 0 k
  pub above : AllWithin (λ q. m ≤ q.member) ps k (length ps)
