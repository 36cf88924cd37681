-- The checks of a put and of a take, one after another.
use Rattle.std.proofs.Common.{◌≡◌, ◌↔◌, ℕ, Bool, IsTrue, is_ok, ⊎_elim, IfOk, IsErrAnd, IsOk, OnOk, OnErr, rules, Ok, Err, Result, MatchResult, List, Some, None, Option, sym, refl, subst}
use Rattle.std.proofs.lemmas.Bool.{both_ways}
use Rattle.std.proofs.lemmas.Result.{err_from_is_err_and}
use Rattle.rights.specs.declared.entries.Pair.{Pair}
use Rattle.rights.specs.declared.faults.RollFault.{RollFault}
use Rattle.rights.specs.Checks.{First, fault_of}
use Rattle.rights.specs.Lists.{In}
use Rattle.rights.specs.Pairs.{pair}
use Rattle.rights.specs.Within.{Within}
use Rattle.rights.proofs.Checks.{first_hit, first_miss, first_none, first_cases, first_nothing, some_none}
use Rattle.roll.proofs.Places.{stands_in, gap_absent}
use Rattle.roll.specs.Places.{StandsAt, Gap}
use Rattle.roll.specs.Refusals.{BothSubjects, Addable, full_checks, put_checks, take_checks}

module _ (K : List Pair) (m g : ℕ) where
  module _ (ceiling : ℕ) where
    pub put_bad : (BothSubjects m g → ⊥) → First (put_checks K ceiling m g) (Some RollFault.BadNumber)
    put_bad n = first_hit _ _ n

    module _ (p : Pair) (is : p ≡ pair m g) (both : BothSubjects m g) where
      pub put_taken : In p K → First (put_checks K ceiling m g) (Some RollFault.Taken)
      put_taken i = first_miss _ _ _ (λ n. n both) (first_hit _ _ (subst (λ q. In q K) is i))

      pub put_loop : (In p K → ⊥) → Within K p.group p.member → First (put_checks K ceiling m g) (Some RollFault.Loop)
      put_loop new w = first_miss _ _ _ (λ n. n both) (first_miss _ _ _ (λ i. new (subst (λ q. In q K) (sym is) i)) (first_hit _ _ (subst (λ q. Within K q.group q.member) is w)))

      pub put_full : (In p K → ⊥) → (Within K p.group p.member → ⊥) → (r : Option RollFault) → First (full_checks K ceiling) r → First (put_checks K ceiling m g) r
      put_full new apart r h = first_miss _ _ _ (λ n. n both) (first_miss _ _ _ (λ i. new (subst (λ q. In q K) (sym is) i)) (first_miss _ _ _ (λ w. apart (subst (λ q. Within K q.group q.member) (sym is) w)) h))

      pub addable : (In p K → ⊥) → (Within K p.group p.member → ⊥) → Addable K p
      addable new apart = record { proper = subst (λ q. BothSubjects q.member q.group) (sym is) both; new = new; apart = apart }

  pub take_bad : (BothSubjects m g → ⊥) → First (take_checks K m g) (Some RollFault.BadNumber)
  take_bad n = first_hit _ _ n

  -- what the search of (m, g) gives
  pub take_found : (p : Pair) → p ≡ pair m g → BothSubjects m g → (r : Result ℕ ℕ) (q : Result ℕ RollFault) (Q : ℕ → RollFault → Type 0) → ((k : ℕ) (f : RollFault) → Q k f → f ≡ RollFault.Absent) → MatchResult r (StandsAt K p) (Gap K p) → MatchResult r (λ k. q ≡ Ok k) (λ k. IsErrAnd q (Q k)) →
      First (take_checks K m g) (fault_of q) × IfOk q (StandsAt K (pair m g))
  take_found p is both (Ok k) q Q to at e =
      let here = subst (λ x. StandsAt K x k) is at in
      rw e (first_miss _ _ _ (λ n. n both) (first_miss _ _ _ (λ n. n (stands_in K (pair m g) k here)) (first_none _ refl)), here)
  take_found p is both (Err k) q Q to gap e =
      let h = err_from_is_err_and q e in
      rw (h.1, to k h.0 h.2) (first_miss _ _ _ (λ n. n both) (first_hit _ _ (subst (λ x. In x K → ⊥) is (gap_absent K p k gap))), tt)

pub on_ok : {T E : Type 0} (r : Result T E) (P : Type 0) → IsOk r → OnOk r P → P
on_ok (Ok x) P h k = k
on_ok (Err e) P h k = absurd (search rules)

pub ok_only : {T E : Type 0} (r : Result T E) (P Q : Type 0) → IsOk r → P → OnOk r P × OnErr r Q
ok_only (Ok x) P Q h k = (k, tt)
ok_only (Err e) P Q h k = absurd (search rules)

pub fault_none : {T F : Type 0} (r : Result T F) → IsOk r → fault_of r ≡ None
fault_none (Ok x) h = refl
fault_none (Err e) h = absurd (search rules)

-- what the search of (m, g) tells of it: a number out of range stands in no pair
pub take_decides : (K : List Pair) (m g : ℕ) (r : Result ℕ RollFault) (b : Bool) → (In (pair m g) K → BothSubjects m g) → First (take_checks K m g) (fault_of r) → IfOk r (StandsAt K (pair m g)) → b ≡ is_ok r → IsTrue b ↔ In (pair m g) K
take_decides K m g (Ok k) b proper h at e = (λ _. stands_in K (pair m g) k at, λ _. e)
take_decides K m g (Err f) b proper h at e = (
  λ t. absurd (both_ways b e t),
  λ i. absurd (⊎_elim
      (λ k. k.0 (proper i))
      (λ k. ⊎_elim (λ j. j.0 i) (λ j. some_none f (first_nothing (Some f) j.1)) (first_cases _ _ (Some f) k.1))
      (first_cases _ _ (Some f) h)),
)
