-- The stored list of rights agrees with the layout of bit numbers: one test over the whole list, the rule for each row,
-- and what a search of it by the derived order of rights tells.
use Rattle.std.proofs.Common.{◌≡◌, ℕ, zero, suc, ◌+◌, ◌<◌, Bool, true, false, ◌&&◌, eqb, ltb, List, [], ◌∷◌, length, get_or, refl, ap, ◌∙◌, ⊎_elim, arith}
use Rattle.std.specs.List.Sorted.{IsPartitionedBy, IsPartitionPoint, IsNonDecreasingBy}
use Rattle.std.specs.Ordering.{is_lt, nat_cmp}
use Rattle.std.proofs.lemmas.Bool.{cases_order}
use Rattle.std.proofs.lemmas.Bool.Decides.{nat_tests}
use Rattle.std.proofs.lemmas.List.Sorted.{IsPartitionedBy-ltb}
use Rattle.std.proofs.lemmas.Bool.{and_parts, eqb-true}
use Rattle.rights.specs.declared.vocabulary.Right.{Right}
use Rattle.rights.specs.Bits.{bit, rows}
use Rattle.rights.specs.contracts.vocabulary.RightOrd.TheImpl as right_ord
use Rattle.rights.proofs.Bits.{bit_below}
use Rattle.rights.proofs.Derived.{right_order}

-- the rights of the list have the numbers from i on
abbrev pub numbered : ℕ → List Right → Bool
numbered i [] = true
numbered i (r ∷ rs) = eqb (bit r) i && numbered (suc i) rs

each : (rs : List Right) (i k : ℕ) (d : Right) → numbered i rs ≡ true → k < length rs → bit (get_or rs k d) ≡ i + k
each [] i k d test h = omega arith
each (r ∷ rs) i zero d test h = let e = eqb-true _ _ (and_parts (eqb (bit r) i) _ test).0 in omega arith
each (r ∷ rs) i (suc k) d test h =
    let e = each rs (suc i) k d (and_parts (eqb (bit r) i) _ test).1 (omega arith) in omega arith

pub row_numbered : (k : ℕ) (d : Right) → k < 32 → bit (get_or rows k d) ≡ k
row_numbered k d h = each rows 0 k d refl h ∙ omega arith

rows_rise : IsNonDecreasingBy bit rows
rows_rise i j d le in' = let a = row_numbered i d (omega arith) in let b = row_numbered j d in' in omega arith

module _ (q : Right) where
  pub rows_parted : IsPartitionedBy (λ r. ltb (bit r) (bit q)) rows
  rows_parted = IsPartitionedBy-ltb bit rows (bit q) rows_rise

  -- as many rows have a lower number as the number of q tells
  pub rows_below : (i : ℕ) → IsPartitionPoint (λ r. ltb (bit r) (bit q) ≡ true) (λ r. ltb (bit r) (bit q) ≡ false) rows i → i < 33 → i ≡ bit q
  rows_below i parted in' =
      let few = bit_below q in
      ⊎_elim (λ e. e) (⊎_elim
      (λ less. let n = row_numbered i q (omega arith) in let t = parted.1 i q (omega arith) (omega arith) in absurd (grind (arith, nat_tests)))
      (λ more. let n = row_numbered (bit q) q few in let t = parted.0 (bit q) q (omega arith) more in absurd (grind (arith, nat_tests)))) (cases_order i (bit q))

-- the derived order of rights tells which number is lower
pub is_below : (r q : Right) → is_lt ((right_ord.ghosts).cmp r q) ≡ ltb (bit r) (bit q)
is_below r q = ap is_lt (right_order r q) ∙ of_numbers (bit r) (bit q)
  where
    of_numbers : (a b : ℕ) → is_lt (nat_cmp a b) ≡ ltb a b
    of_numbers a b = grind (arith, nat_tests)
