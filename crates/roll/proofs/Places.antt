-- Where a pair stands in a rising list, or would stand: what a search by halving tells.
use Rattle.std.proofs.Common.{◌≡◌, ℕ, zero, suc, ◌<◌, List, [], ◌∷◌, length, get_or, Some, Ok, Err, Result, MatchResult, Option, refl, ap, ◌∙◌, subst, inl, inr, ⊎_elim, arith}
use Rattle.std.specs.List.Sorted.{IsBinarySearchResult, IsSearchInRange}
use Rattle.std.specs.Option.{ok_or}
use Rattle.std.specs.Result.{result_err}
use Rattle.std.proofs.lemmas.Option.{slice_get-get_or, slice_get_within, get_or_from_slice_get}
use Rattle.std.proofs.lemmas.Bool.{cases_lt}
use Rattle.rights.specs.declared.entries.Pair.{Pair}
use Rattle.rights.specs.declared.faults.RollFault.{RollFault}
use Rattle.rights.specs.Lists.{In}
use Rattle.rights.specs.Pairs.{Before, RisingPairs}
use Rattle.rights.proofs.Derived.{pair_order}
use Rattle.rights.proofs.Pairs.{pair_one_way, pair_transitive}
use Rattle.rights.specs.contracts.entries.PairOrd.TheImpl as pair_ord
use Rattle.rising.proofs.Sought.{Belongs, in_place, sought}
use Rattle.roll.specs.Places.{StandsAt, Gap}

pub in_at : (ps : List Pair) (j : ℕ) (d : Pair) → j < length ps → In (get_or ps j d) ps
in_at [] j d l = absurd (omega arith)
in_at (p ∷ ps) zero d l = inl refl
in_at (p ∷ ps) (suc j) d l = inr (in_at ps j d (omega arith))

-- what the search finds
pub searched : (ps : List Pair) (p : Pair) (r : Result ℕ ℕ) → RisingPairs ps → IsSearchInRange r (length ps) → IsBinarySearchResult (λ q. (pair_ord.ghosts).cmp q p) ps r → MatchResult r (StandsAt ps p) (Gap ps p)
searched ps p r up room found = by r (sought (pair_ord.ghosts).cmp Before pair_order (λ q h. pair_one_way q q h h) pair_transitive p ps r up room found)
  where
    by : (r : Result ℕ ℕ) → MatchResult r (λ k. (k < length ps) × (get_or ps k p ≡ p)) (λ k. (In p ps → ⊥) × Belongs (pair_ord.ghosts).cmp Before pair_order (λ q h. pair_one_way q q h h) pair_transitive p ps k) → MatchResult r (StandsAt ps p) (Gap ps p)
    by (Ok k) h = slice_get-get_or ps k p h.0 ∙ ap Some h.1
    by (Err k) h = record { inside = h.1.within; below = h.1.below; above = h.1.above }

-- a pair of which it is known where it would stand does not stand
pub gap_absent : (ps : List Pair) (p : Pair) (k : ℕ) → Gap ps p k → In p ps → ⊥
gap_absent ps p k gap i =
    let o = in_place p ps i p in
    ⊎_elim
    (λ lt. pair_one_way p p (subst (λ q. Before q p) o.2 (gap.below o.0 p (omega arith) lt)) (subst (λ q. Before q p) o.2 (gap.below o.0 p (omega arith) lt)))
    (λ ge. pair_one_way p p (subst (Before p) o.2 (gap.above o.0 p ge o.1)) (subst (Before p) o.2 (gap.above o.0 p ge o.1)))
    (cases_lt o.0 k)

pub stands_in : (ps : List Pair) (p : Pair) (k : ℕ) → StandsAt ps p k → In p ps
stands_in ps p k at = subst (λ x. In x ps) (get_or_from_slice_get ps k p p at) (in_at ps k p (slice_get_within ps k p at))

-- the place where it would stand, or the fault f
pub found_gap : (ps : List Pair) (p : Pair) (f : RollFault) (r : Result ℕ ℕ) (o : Option ℕ) (q : Result ℕ RollFault) → MatchResult r (StandsAt ps p) (Gap ps p) → o ≡ result_err r → q ≡ ok_or o f → MatchResult q (Gap ps p) (λ e. (e ≡ f) × In p ps)
found_gap ps p f (Ok k) o q at e h = rw (h, e) (refl, stands_in ps p k at)
found_gap ps p f (Err k) o q gap e h = rw (h, e) gap
