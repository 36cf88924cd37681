-- Where something stands or belongs in a strictly rising list, as the library's binary search tells it.
-- The order is any that a comparison computes: that of entries, of pairs, of keys.
use Rattle.std.proofs.Common.{◌≡◌, ℕ, zero, suc, ◌<◌, ◌≤◌, List, [], ◌∷◌, length, get_or, Ok, Err, Result, MatchResult, sym, subst, inl, inr, ⊎_elim, arith}
use Rattle.std.specs.declared.cmp.Ordering.{Ordering}
use Rattle.std.specs.Ordering.{MatchOrdering, ordering_index}
use Rattle.std.specs.List.{AllWithin}
use Rattle.std.specs.List.Sorted.{IsNonDecreasingBy, IsBinarySearchResult, IsSearchInRange}
use Rattle.std.proofs.ByRecursion.{All-get_or}
use Rattle.std.proofs.lemmas.Bool.{cases_lt, cases_order}
use Rattle.std.proofs.lemmas.Cmp.{by_ranked}
use Rattle.rights.specs.Lists.{In, Rising}

-- what stands in a list stands at some place
pub in_place : {X : Type 0} (x : X) (xs : List X) → In x xs → (d : X) → (i : ℕ) × (i < length xs) × (get_or xs i d ≡ x)
in_place x [] i d = absurd i
in_place x (y ∷ ys) (inl h) d = (0, omega arith, sym h)
in_place x (y ∷ ys) (inr i) d = let p = in_place x ys i d in (suc p.0, (let h = p.1 in omega arith), p.2)

-- of two places of a rising list the first holds what comes before
pub rising_get_or : {X : Type 0} (R : X → X → Type 0) (xs : List X) (i j : ℕ) (d : X) → Rising R xs → i < j → j < length xs → R (get_or xs i d) (get_or xs j d)
rising_get_or R [] i j d up lt h = absurd (omega arith)
rising_get_or R (x ∷ xs) i zero d up lt h = absurd (omega arith)
rising_get_or R (x ∷ xs) zero (suc j) d up lt h = All-get_or (R x) xs j d (omega arith) up.0
rising_get_or R (x ∷ xs) (suc i) (suc j) d up lt h = rising_get_or R xs i j d up.1 (omega arith) (omega arith)

module _ {X : Type 0} (cmp : X → X → Ordering) (Before : X → X → Type 0) (order : (x y : X) → MatchOrdering (cmp x y) (Before x y) (x ≡ y) (Before y x)) (strict : (x : X) → Before x x → ⊥) (through : (x y z : X) → Before x y → Before y z → Before x z) where
  -- what comes before y is less than it, and the other ways round
  less_of : (x y : X) → cmp x y ≡ Ordering.Less → Before x y
  less_of x y e = subst (λ o. MatchOrdering o (Before x y) (x ≡ y) (Before y x)) e (order x y)

  equal_of : (x y : X) → cmp x y ≡ Ordering.Equal → x ≡ y
  equal_of x y e = subst (λ o. MatchOrdering o (Before x y) (x ≡ y) (Before y x)) e (order x y)

  greater_of : (x y : X) → cmp x y ≡ Ordering.Greater → Before y x
  greater_of x y e = subst (λ o. MatchOrdering o (Before x y) (x ≡ y) (Before y x)) e (order x y)

  pub of_greater : (x y : X) → Before y x → cmp x y ≡ Ordering.Greater
  of_greater x y h =
      by_ranked _ _ _ (cmp x y) (order x y)
      (λ e (k : Before x y). absurd (strict x (through x y x k h)))
      (λ e (k : x ≡ y). absurd (strict y (subst (λ z. Before y z) k h)))
      (λ e (k : Before y x). e)

  -- the answers of the comparison with x rise over a rising list
  rising_answers : (x : X) (xs : List X) → Rising Before xs → IsNonDecreasingBy (λ y. ordering_index (cmp y x)) xs
  rising_answers x xs up i j d le in' =
      ⊎_elim
      (λ (same : i ≡ j). rw same (omega arith))
      (⊎_elim (λ (less : i < j). step (get_or xs i d) (get_or xs j d) (rising_get_or Before xs i j d up less in')) (λ (more : j < i). absurd (omega arith)))
      (cases_order i j)
    where
      step : (y z : X) → Before y z → ordering_index (cmp y x) ≤ ordering_index (cmp z x)
      step y z h =
          by_ranked _ _ _ (cmp y x) (order y x)
          (λ e (k : Before y x). rw e (omega arith))
          (λ e (k : y ≡ x). let g : cmp z x ≡ Ordering.Greater = of_greater z x (subst (λ w. Before w z) k h) in rw (e, g) (omega arith))
          (λ e (k : Before x y). let g : cmp z x ≡ Ordering.Greater = of_greater z x (through x y z k h) in rw (e, g) (omega arith))

  pub record Belongs (x : X) (xs : List X) (k : ℕ) : Type 0 where
    pub within : k ≤ length xs
    pub below : AllWithin (λ y. Before y x) xs 0 k
    pub above : AllWithin (λ y. Before x y) xs k (length xs)

  -- where x stands, or where it belongs and stands nowhere
  pub sought : (x : X) (xs : List X) (r : Result ℕ ℕ) → Rising Before xs → IsSearchInRange r (length xs) → IsBinarySearchResult (λ y. cmp y x) xs r →
      MatchResult r (λ k. (k < length xs) × (get_or xs k x ≡ x)) (λ k. (In x xs → ⊥) × Belongs x xs k)
  sought x xs (Ok k) up room at = (room, equal_of _ _ (at x))
  sought x xs (Err k) up room at =
      let p = at (rising_answers x xs up) in
      let below : AllWithin (λ y. Before y x) xs 0 k = λ i d lo hi. less_of _ _ (p.0 i d lo hi) in
      let above : AllWithin (λ y. Before x y) xs k (length xs) = λ i d lo hi. greater_of _ _ (p.1 i d lo hi) in
      let apart : In x xs → ⊥ =
      λ in'.
      let q = in_place x xs in' x in
      ⊎_elim
      (λ (less : q.0 < k). strict x (subst (λ y. Before y x) q.2 (below q.0 x (omega arith) less)))
      (λ (le : k ≤ q.0). strict x (subst (λ y. Before x y) q.2 (above q.0 x le q.1)))
      (cases_lt q.0 k) in
      (apart, record { within = room; below = below; above = above })
