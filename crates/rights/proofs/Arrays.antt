-- An array made by calls of a closure that keeps what it holds.
use Rattle.std.proofs.Common.{◌≡◌, ℕ, zero, suc, ◌+◌, ◌<◌, ◌≤◌, List, get_or, sym, subst, ⊎_elim, arith}
use denote.Param.Members.{Mut}
use Rattle.std.specs.Array.{IsFromFnResult, IsFromFnResultFrom}
use Rattle.std.specs.Fn.{Called}
use Rattle.std.proofs.lemmas.Bool.{cases_lt}

module _ {F B : Type 0} (g : Mut F (ℕ × Unit {0}) B) (P : ℕ → B → Type 0) (f : F) (each : (i : ℕ) (y : B) (q : F) → Called g f (i, tt) y q → (q ≡ f) × P i y) (ys : List B) (d : B) where
  made_from : (i n : ℕ) → IsFromFnResultFrom g f ys i n → (k : ℕ) → i ≤ k → k < i + n → P k (get_or ys k d)
  made_from i zero made k a b = absurd (omega arith)
  made_from i (suc n) made k a b =
      let here = each i made.1 made.0 made.3 in
      ⊎_elim
      (λ lt. made_from (i + 1) n (subst (λ q. IsFromFnResultFrom g q ys (i + 1) n) here.0 made.4) k (omega arith) (omega arith))
      (λ ge. let q : i ≡ k = omega arith in subst (λ x. P x (get_or ys x d)) q (subst (P i) (sym (made.2.1 d)) here.1))
      (cases_lt i k)

  -- each element is what a call at its place gives
  pub made_at : (n : ℕ) → IsFromFnResult g f ys n → (k : ℕ) → k < n → P k (get_or ys k d)
  made_at n made k l = made_from 0 n made.each k (omega arith) (omega arith)
