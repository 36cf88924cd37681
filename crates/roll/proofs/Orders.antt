-- The order of pairs: its test, transitive, one way only.
use Rattle.std.proofs.Common.{◌≡◌, true, false, ap, ◌∙◌, ⊎_elim, arith}
use Rattle.std.proofs.lemmas.Bool.{cases_eq}
use Rattle.std.proofs.lemmas.Bool.Decides.{nat_tests}
use Rattle.rights.specs.declared.entries.Pair.{Pair}
use Rattle.rights.specs.Pairs.{pair, Before}
use Rattle.roll.specs.Pairs.{before, same}

pub same_pair : (p q : Pair) → p.member ≡ q.member → p.group ≡ q.group → p ≡ q
same_pair p q m g = ap (λ x. pair x p.group) m ∙ ap (λ x. pair q.member x) g

module _ (p q : Pair) where
  pub before_is : before p q ≡ true → Before p q
  before_is h = grind (arith, nat_tests)

  pub before_so : Before p q → before p q ≡ true
  before_so h = grind (arith, nat_tests)

  pub before_not : before p q ≡ true → before q p ≡ false
  before_not h = grind (arith, nat_tests)

  pub before_other : before q p ≡ false → (q ≡ p → ⊥) → before p q ≡ true
  before_other h n =
      ⊎_elim
      (λ e. ⊎_elim (λ f. absurd (n (same_pair q p e f))) (λ f. grind (arith, nat_tests)) (cases_eq q.group p.group))
      (λ e. grind (arith, nat_tests))
      (cases_eq q.member p.member)

  pub same_is : same p q ≡ true → p ≡ q
  same_is h = same_pair p q (grind (arith, nat_tests)) (grind (arith, nat_tests))

  pub same_so : p ≡ q → same p q ≡ true
  same_so e = let m = ap (λ x. x.member) e in let g = ap (λ x. x.group) e in grind (arith, nat_tests)

  pub before_apart : before q p ≡ true → same p q ≡ false
  before_apart h = grind (arith, nat_tests)

pub before_trans : (p q r : Pair) → before p q ≡ true → before q r ≡ true → before p r ≡ true
before_trans p q r h k = grind (arith, nat_tests)

pub before_self : (p : Pair) → before p p ≡ false
before_self p = grind (arith, nat_tests)
