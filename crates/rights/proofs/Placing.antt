-- A list that rises in a strict total order takes one element more in one place, and gives up any element that it has.
use Rattle.std.proofs.Common.{◌≡◌, ℕ, zero, suc, ◌+◌, Bool, not, ◌⊎◌, List, [], ◌∷◌, ◌++◌, take, drop, Decides, sym, refl, ap, inl, inr, ⊎_elim, arith}
use Rattle.std.specs.List.{AllByRecursion, position_or_len, insert, remove}
use Rattle.std.proofs.lemmas.Bool.{cond_both, not-true, not-false}
use Rattle.std.proofs.lemmas.Bool.Decides.{not_from_Decides}
use Rattle.std.proofs.lemmas.List.{take-append-drop}
use Rattle.std.proofs.lemmas.List.Elements.{All-from_recursion, recursion_from_All, All-append, All-cons, All-take, All-drop}
use Rattle.rights.specs.Lists.{In, Rising, Placed, Parted, none, keep, leave}
use Rattle.rights.proofs.Deciding.{all_in, in_all}

module _ {X : Type 0} where
  -- xs with x before the first element that it comes before
  abbrev pub place : (X → X → Bool) → X → List X → List X
  place before x xs = insert xs (position_or_len (before x) xs) x

  -- xs without the first element that is x
  abbrev pub unplace : (X → X → Bool) → X → List X → List X
  unplace same x xs = remove xs (position_or_len (same x) xs)

  all_insert : (P : X → Type 0) (n : ℕ) (x : X) (xs : List X) → P x → AllByRecursion P xs → AllByRecursion P (insert xs n x)
  all_insert P n x xs p a =
      let h = All-from_recursion P xs a in
      recursion_from_All P _ (All-append P (take n xs) (x ∷ drop n xs) (All-take P n xs h) (All-cons P x (drop n xs) p (All-drop P n xs h)))

  all_remove : (P : X → Type 0) (n : ℕ) (xs : List X) → AllByRecursion P xs → AllByRecursion P (remove xs n)
  all_remove P n xs a =
      let h = All-from_recursion P xs a in
      recursion_from_All P _ (All-append P (take n xs) (drop (suc n) xs) (All-take P n xs h) (All-drop P (suc n) xs h))

one : (n : ℕ) → 1 + n ≡ suc n
one n = omega arith

module _ {X : Type 0} (Before : X → X → Type 0) where
  pub placed_rises : (x : X) (xs ys : List X) → Placed Before x xs ys → Rising Before ys
  unfolding Placed
  placed_rises x xs ys p = p.4

  remove_rises : (n : ℕ) (xs : List X) → Rising Before xs → Rising Before (remove xs n)
  remove_rises zero [] r = tt
  remove_rises zero (y ∷ ys) r = r.1
  remove_rises (suc n) [] r = tt
  remove_rises (suc n) (y ∷ ys) r = (all_remove (Before y) n ys r.0, remove_rises n ys r.1)

  pub unplace_rises : (same : X → X → Bool) (x : X) (xs : List X) → Rising Before xs → Rising Before (unplace same x xs)
  unplace_rises same x xs = remove_rises (position_or_len (same x) xs) xs

  pub unplaced_in : (same : X → X → Bool) → ((x y : X) → Decides (same x y) (x ≡ y)) → (x : X) (xs : List X) → Rising Before xs → In x xs → Placed Before x (unplace same x xs) xs
  unfolding Placed
  unplaced_in same d x xs r i = (take (position_or_len (same x) xs) xs, drop (suc (position_or_len (same x) xs)) xs, refl, stood xs i, r)
    where
      stood : (xs : List X) → In x xs → xs ≡ take (position_or_len (same x) xs) xs ++ (x ∷ drop (suc (position_or_len (same x) xs)) xs)
      stood [] i = absurd i
      stood (y ∷ ys) i = cond_both (not (same x y)) (1 + position_or_len (same x) ys) 0 (λ n. y ∷ ys ≡ take n (y ∷ ys) ++ (x ∷ drop (suc n) (y ∷ ys)))
          (λ t. rw (one (position_or_len (same x) ys)) (ap (λ l. y ∷ l) (stood ys (⊎_elim (λ e. absurd (not_from_Decides (same x y) (d x y) (not-true _ t) e)) (λ j. j) i))))
          (λ f. ap (λ z. z ∷ ys) (sym ((d x y).0 (not-false _ f))))

  module _ (before : X → X → Bool) (decides : (x y : X) → Decides (before x y) (Before x y)) (along : (x y z : X) → Before x y → Before y z → Before x z) (total : (x y : X) → (x ≡ y) ⊎ (Before x y ⊎ Before y x)) where
    place_rises : (x : X) (xs : List X) → Rising Before xs → (In x xs → ⊥) → Rising Before (place before x xs)
    place_rises x [] r n = (tt, tt)
    place_rises x (y ∷ ys) r n = cond_both (not (before x y)) (1 + position_or_len (before x) ys) 0 (λ k. Rising Before (insert (y ∷ ys) k x))
        (λ t. rw (one (position_or_len (before x) ys)) (all_insert (Before y) (position_or_len (before x) ys) x ys (after (not_from_Decides (before x y) (decides x y) (not-true _ t))) r.0, place_rises x ys r.1 (λ i. n (inr i))))
        (λ f. let b = (decides x y).0 (not-false _ f) in ((b, in_all (Before x) ys (λ z i. along x y z b (all_in (Before y) ys r.0 z i))), r))
      where
        after : (Before x y → ⊥) → Before y x
        after apart = ⊎_elim (λ e. absurd (n (inl e))) (λ o. ⊎_elim (λ b. absurd (apart b)) (λ b. b) o) (total x y)

    pub placed_in : (x : X) (xs : List X) → Rising Before xs → (In x xs → ⊥) → Placed Before x xs (place before x xs)
    unfolding Placed
    placed_in x xs r n = (take (position_or_len (before x) xs) xs, drop (position_or_len (before x) xs) xs, sym (take-append-drop _ xs), refl, place_rises x xs r n)

-- what is kept of a rising list rises
kept_all : {X : Type 0} (Keeps P : X → Type 0) {xs kept out : List X} → Parted Keeps xs kept out → AllByRecursion P xs → AllByRecursion P kept
kept_all Keeps P none a = tt
kept_all Keeps P (keep h p) a = (a.0, kept_all Keeps P p a.1)
kept_all Keeps P (leave h p) a = kept_all Keeps P p a.1

pub kept_rises : {X : Type 0} (Keeps : X → Type 0) (Before : X → X → Type 0) {xs kept out : List X} → Parted Keeps xs kept out → Rising Before xs → Rising Before kept
kept_rises Keeps Before none r = tt
kept_rises Keeps Before (keep {x = x} h p) r = (kept_all Keeps (Before x) p r.0, kept_rises Keeps Before p r.1)
kept_rises Keeps Before (leave h p) r = kept_rises Keeps Before p r.1
