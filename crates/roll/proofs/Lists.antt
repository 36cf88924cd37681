-- The laws of a rising list with a pair more or less: who stands in it, its length, that it rises,
-- and where the pair stands; and that a rising list is known by its members.
use Rattle.std.proofs.Common.{◌≡◌, ℕ, zero, suc, ◌+◌, ◌<◌, Bool, true, false, cond, ◌⊎◌, List, [], ◌∷◌, length, get_or, take, drop, sym, refl, ap, ◌∙◌, subst, inl, inr, ⊎_elim, arith}
use Rattle.std.specs.List.{insert, remove, AllByRecursion}
use Rattle.std.proofs.lemmas.Bool.{both_ways, cond-true, cond-false}
use Rattle.std.proofs.ByRecursion.{All-get_or, All-weaker}
use Rattle.rights.specs.declared.entries.Pair.{Pair}
use Rattle.rights.specs.Lists.{In, Inside}
use Rattle.rights.specs.Pairs.{Before, RisingPairs}
use Rattle.roll.specs.Pairs.{before, same, added, dropped}
use Rattle.roll.proofs.Orders.{same_is, same_so, before_apart, before_is, before_so, before_not, before_other, before_trans, before_self}

-- a fact of each element, at one that stands there
pub all_in : (P : Pair → Type 0) (ps : List Pair) (x : Pair) → AllByRecursion P ps → In x ps → P x
all_in P [] x h i = absurd i
all_in P (p ∷ ps) x h (inl e) = subst P (sym e) h.0
all_in P (p ∷ ps) x h (inr i) = all_in P ps x h.1 i

pub all_from_in : (P : Pair → Type 0) (ps : List Pair) → ((x : Pair) → In x ps → P x) → AllByRecursion P ps
all_from_in P [] h = tt
all_from_in P (p ∷ ps) h = (h p (inl refl), all_from_in P ps (λ x i. h x (inr i)))

module _ (p : Pair) where
  pub in_added : (ps : List Pair) (x : Pair) → In x (added p ps) → (x ≡ p) ⊎ In x ps
  unfolding added
  in_added [] x i = i
  in_added (q ∷ qs) x i =
      elim (before p q) as (λ b. In x (cond b (p ∷ q ∷ qs) (q ∷ added p qs)) → (x ≡ p) ⊎ In x (q ∷ qs)) [
        | true ↦ λ j. j
        | false ↦ ⊎_elim (λ e. inr (inl e)) (λ j. ⊎_elim inl (λ k. inr (inr k)) (in_added qs x j))
      ] i

  pub added_in : (ps : List Pair) (x : Pair) → (x ≡ p) ⊎ In x ps → In x (added p ps)
  unfolding added
  added_in [] x i = i
  added_in (q ∷ qs) x i =
      elim (before p q) as (λ b. In x (cond b (p ∷ q ∷ qs) (q ∷ added p qs))) [
        | true ↦ i
        | false ↦ ⊎_elim (λ e. inr (added_in qs x (inl e))) (⊎_elim inl (λ j. inr (added_in qs x (inr j)))) i
      ]

  pub length_added : (ps : List Pair) → length (added p ps) ≡ length ps + 1
  unfolding added
  length_added [] = refl
  length_added (q ∷ qs) =
      elim (before p q) as (λ b. length (cond b (p ∷ q ∷ qs) (q ∷ added p qs)) ≡ length (q ∷ qs) + 1) [
        | true ↦ omega arith
        | false ↦ omega (arith, length_added qs)
      ]

  -- before all that follow k, after all up to k: then k is its place
  pub added_at : (ps : List Pair) (k : ℕ) → AllByRecursion (λ q. before q p ≡ true) (take k ps) → AllByRecursion (λ q. before p q ≡ true) (drop k ps) → added p ps ≡ insert ps k p
  unfolding added
  added_at [] zero a b = refl
  added_at [] (suc k) a b = refl
  added_at (q ∷ qs) zero a b = cond-true (before p q) (p ∷ q ∷ qs) (q ∷ added p qs) b.0
  added_at (q ∷ qs) (suc k) a b =
      cond-false (before p q) (p ∷ q ∷ qs) (q ∷ added p qs) (before_not q p a.0) ∙ ap (λ l. q ∷ l) (added_at qs k a.1 b)

  pub in_dropped : (ps : List Pair) (x : Pair) → In x (dropped p ps) → In x ps
  unfolding dropped
  in_dropped [] x i = i
  in_dropped (q ∷ qs) x i =
      elim (same p q) as (λ b. In x (cond b qs (q ∷ dropped p qs)) → In x (q ∷ qs)) [
        | true ↦ inr
        | false ↦ ⊎_elim inl (λ j. inr (in_dropped qs x j))
      ] i

  pub dropped_in : (ps : List Pair) (x : Pair) → In x ps → (x ≡ p → ⊥) → In x (dropped p ps)
  unfolding dropped
  dropped_in [] x i n = i
  dropped_in (q ∷ qs) x i n = by (same p q) refl i (λ j. dropped_in qs x j n)
    where
      by : (b : Bool) → same p q ≡ b → In x (q ∷ qs) → (In x qs → In x (dropped p qs)) → In x (cond b qs (q ∷ dropped p qs))
      by true e (inl f) rest = absurd (n (f ∙ sym (same_is p q e)))
      by true e (inr j) rest = j
      by false e (inl f) rest = inl f
      by false e (inr j) rest = inr (rest j)

  pub length_dropped : (ps : List Pair) → In p ps → length (dropped p ps) + 1 ≡ length ps
  unfolding dropped
  length_dropped [] i = absurd i
  length_dropped (q ∷ qs) i = by (same p q) refl i (length_dropped qs)
    where
      by : (b : Bool) → same p q ≡ b → In p (q ∷ qs) → (In p qs → length (dropped p qs) + 1 ≡ length qs) → length (cond b qs (q ∷ dropped p qs)) + 1 ≡ length (q ∷ qs)
      by true e j rest = omega arith
      by false e (inl f) rest = absurd (both_ways (same p q) e (same_so p q f))
      by false e (inr j) rest = omega (arith, rest j)

  pub dropped_at : (ps : List Pair) (k : ℕ) (d : Pair) → RisingPairs ps → k < length ps → get_or ps k d ≡ p → dropped p ps ≡ remove ps k
  unfolding dropped
  dropped_at [] k d up l e = absurd (omega arith)
  dropped_at (q ∷ qs) zero d up l e = cond-true (same p q) qs (q ∷ dropped p qs) (same_so p q (sym e))
  dropped_at (q ∷ qs) (suc k) d up l e =
      let lt : k < length qs = omega arith in
      let first : before q p ≡ true = before_so q p (subst (Before q) e (All-get_or (Before q) qs k d lt up.0)) in
      cond-false (same p q) qs (q ∷ dropped p qs) (before_apart p q first) ∙ ap (λ l. q ∷ l) (dropped_at qs k d up.1 lt e)

  pub rising_added : (ps : List Pair) → RisingPairs ps → (In p ps → ⊥) → RisingPairs (added p ps)
  unfolding added
  rising_added [] up n = (tt, tt)
  rising_added (q ∷ qs) up n = by (before p q) refl (rising_added qs up.1 (λ i. n (inr i)))
    where
      after : before p q ≡ true → AllByRecursion (Before p) qs
      after e = All-weaker (Before q) (Before p) (λ x h. before_is p x (before_trans p q x e (before_so q x h))) qs up.0

      further : before p q ≡ false → (x : Pair) → In x (added p qs) → Before q x
      further e x i = ⊎_elim (λ f. subst (Before q) (sym f) (before_is q p (before_other q p e (λ g. n (inl g))))) (all_in (Before q) qs x up.0) (in_added qs x i)

      by : (b : Bool) → before p q ≡ b → RisingPairs (added p qs) → RisingPairs (cond b (p ∷ q ∷ qs) (q ∷ added p qs))
      by true e rest = ((before_is p q e, after e), up)
      by false e rest = (all_from_in (Before q) (added p qs) (further e), rest)

  pub rising_dropped : (ps : List Pair) → RisingPairs ps → RisingPairs (dropped p ps)
  unfolding dropped
  rising_dropped [] up = tt
  rising_dropped (q ∷ qs) up =
      elim (same p q) as (λ b. RisingPairs (cond b qs (q ∷ dropped p qs))) [
        | true ↦ up.1
        | false ↦ (all_from_in (Before q) (dropped p qs) (λ x i. all_in (Before q) qs x up.0 (in_dropped qs x i)), rising_dropped qs up.1)
      ]

-- the first of a rising list does not stand in the rest
pub rising_once : (p : Pair) (ps : List Pair) → RisingPairs (p ∷ ps) → In p ps → ⊥
rising_once p ps up i = both_ways (before p p) (before_self p) (before_so p p (all_in (Before p) ps p up.0 i))

pub dropped_not : (p : Pair) (ps : List Pair) → RisingPairs ps → In p (dropped p ps) → ⊥
unfolding dropped
dropped_not p [] up i = i
dropped_not p (q ∷ qs) up i = by (same p q) refl i (dropped_not p qs up.1)
  where
    by : (b : Bool) → same p q ≡ b → In p (cond b qs (q ∷ dropped p qs)) → (In p (dropped p qs) → ⊥) → ⊥
    by true e j rest = rising_once q qs up (subst (λ x. In x qs) (same_is p q e) j)
    by false e (inl f) rest = both_ways (same p q) e (same_so p q f)
    by false e (inr j) rest = rest j

-- a rising list is known by its members
pub rising_same : (ps qs : List Pair) → RisingPairs ps → RisingPairs qs → Inside ps qs → Inside qs ps → ps ≡ qs
rising_same [] [] up vp there back = refl
rising_same [] (q ∷ qs) up vp there back = absurd (back q (inl refl))
rising_same (p ∷ ps) [] up vp there back = absurd (there p (inl refl))
rising_same (p ∷ ps) (q ∷ qs) up vp there back = ap (λ x. x ∷ ps) first ∙ ap (λ l. q ∷ l) (rising_same ps qs up.1 vp.1 on off)
  where
    first : p ≡ q
    first =
        ⊎_elim (λ e. e)
        (λ i. ⊎_elim sym
        (λ j. absurd (both_ways (before q p) (before_not p q (before_so p q (all_in (Before p) ps q up.0 j))) (before_so q p (all_in (Before q) qs p vp.0 i))))
        (back q (inl refl)))
        (there p (inl refl))

    on : Inside ps qs
    on x i = ⊎_elim (λ e. absurd (rising_once p ps up (subst (λ y. In y ps) (e ∙ sym first) i))) (λ j. j) (there x (inr i))

    off : Inside qs ps
    off x i = ⊎_elim (λ e. absurd (rising_once q qs vp (subst (λ y. In y qs) (e ∙ first) i))) (λ j. j) (back x (inr i))
