-- Where an element stands or belongs in a list.
-- Parts: the place that parts what lies below from the rest.
-- Stands: an entry stands at a place. Finding: where it stands, or its place.
use Rattle.std.specs.Prelude.{◌≡◌, ℕ, ◌<◌, ◌≤◌, List, length, Ok, Err, Result, slice_index_or}
use Rattle.rights.specs.declared.entries.Entry.{Entry}
use Rattle.rights.specs.Entries.{Before}
use Rattle.rights.specs.Lists.{In}

-- the first k elements lie below, and no other does
pub record Parts {X : Type 0} (Low : X → Type 0) (xs : List X) (k : ℕ) : Type 0 where
  pub within : k ≤ length xs
  pub below : (i : ℕ) (d : X) → i < k → Low (slice_index_or xs i d)
  pub above : (i : ℕ) (d : X) → k ≤ i → i < length xs → Low (slice_index_or xs i d) → ⊥

abbrev pub Stands : Entry → List Entry → ℕ → Type 0
Stands e es k = (k < length es) × (slice_index_or es k e ≡ e)

-- e stands at k, or it stands nowhere and belongs at k
abbrev pub Finding : Entry → List Entry → Result ℕ ℕ → Type 0
Finding e es (Ok k) = Stands e es k
Finding e es (Err k) = (In e es → ⊥) × Parts (λ f. Before f e) es k
