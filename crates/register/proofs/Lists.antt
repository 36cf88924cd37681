-- The tests of lists that the code makes, as the recursions and the words that the contracts cite. Assumes nothing.
use Rattle.std.proofs.Common.{◌≡◌, ℕ, zero, suc, ◌+◌, ◌<◌, ltb, Bool, true, false, List, [], ◌∷◌, length, get_or, is_some, sym, refl, arith, add-one}
use Rattle.std.specs.Prelude.{◌↔◌, IsTrue, MatchBool}
use Rattle.std.specs.Bool.{then_some}
use Rattle.std.specs.List.{AllByRecursion, AllWithin, AllAdjacentBelow, HoldsAt, IsAllAdjacentAnswer}
use Rattle.std.proofs.lemmas.Bool.{and_from, and_left, and_right}
use Rattle.std.proofs.lemmas.Bool.Decides.{when_true}
use Rattle.std.proofs.lemmas.Iterator.Search.{true_from_All}
use Rattle.std.proofs.lemmas.List.Elements.{All-from_recursion, recursion_from_All, All-from_all_within}
use Rattle.register.specs.Rows.{rise}

-- `then_some` gives something exactly where its condition is true
pub some_when : (b : Bool) (x : ℕ) → is_some (then_some b x) ≡ b
some_when true x = refl
some_when false x = refl

-- an `all` whose test decides P
pub each_decided : (P : ℕ → Type 0) (xs : List ℕ) (r : Bool) → MatchBool r (AllWithin P xs 0 (length xs)) ((k : ℕ) × (k < length xs) × HoldsAt (λ x. P x → ⊥) xs k) → IsTrue r ↔ AllByRecursion P xs
each_decided P xs r h = (
  λ is. recursion_from_All P xs (All-from_all_within P xs (when_true _ _ is h)),
  λ all. true_from_All P (λ x. P x → ⊥) r xs (λ x p not. not p) h (All-from_recursion P xs all),
)

rise_true : (xs : List ℕ) → AllAdjacentBelow (λ x y. true ≡ ltb x y) xs (length xs) → rise xs ≡ true
rise_true [] h = refl
rise_true (x ∷ []) h = refl
rise_true (x ∷ y ∷ xs) h = and_from _ _ (sym (h 0 0 (omega arith))) (rise_true (y ∷ xs) (λ k d below. simp add-one (simp add-one at (h (suc k) d (omega arith)))))

rise_false : (xs : List ℕ) (k : ℕ) → k + 1 < length xs → ((d : ℕ) → false ≡ ltb (get_or xs k d) (get_or xs (k + 1) d)) → rise xs ≡ false
rise_false [] k below h = absurd (omega arith)
rise_false (x ∷ []) k below h = absurd (omega arith)
rise_false (x ∷ y ∷ xs) zero below h = and_left _ _ (sym (h 0))
rise_false (x ∷ y ∷ xs) (suc k) below h = and_right _ _ (rise_false (y ∷ xs) k (omega arith) (λ d. simp add-one (simp add-one at (h d))))

-- what `is_sorted_by` answers by a strict order
pub rise_answer : (xs : List ℕ) (r : Bool) → IsAllAdjacentAnswer (λ x y b. b ≡ ltb x y) xs r → r ≡ rise xs
rise_answer xs true h = sym (rise_true xs h)
rise_answer xs false h = sym (rise_false xs h.0 h.1 h.2)
