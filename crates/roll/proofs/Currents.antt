-- The table stays current: at the start, with a pair more, with a pair less.
use Rattle.std.proofs.Common.{◌≡◌, ◌↔◌, IsTrue, Ok, Err, Result, MatchResult, ℕ, ◌<◌, Bool, true, false, eqb, get_or, set, replicate, List, [], ◌∷◌, sym, ap, ◌∙◌, subst, inl, inr, ⊎_elim, arith}
use mathlib.Core.Bool.{Bool-set}
use mathlib.Core.Logic.{∥∥₁_elim}
use Rattle.std.proofs.lemmas.List.{get_or-replicate, length-replicate, get_or-set_same, get_or-set_other}
use Rattle.std.proofs.lemmas.Bool.{both_ways, cases_Bool, cases_eq, eq-eqb, ne_eqb}
use Rattle.std.proofs.lemmas.Bool.Decides.{Decides-at, Decides-like, Decides-and, Decides-or, Decides-eqb}
use Rattle.rights.specs.declared.entries.Pair.{Pair}
use Rattle.rights.specs.declared.faults.RollFault.{RollFault}
use Rattle.rights.specs.Lists.{Inside}
use Rattle.rights.specs.Pairs.{pair}
use Rattle.rights.specs.Within.{Within}
use Rattle.rights.proofs.Within.{within_same, within_none, within_grows, within_more, within_or_not}
use Rattle.roll.specs.Pairs.{same, added, dropped}
use Rattle.roll.specs.Refusals.{BothSubjects, WithinRoll}
use Rattle.roll.specs.Tables.{says, Current, RowOf, Joined, Renewed}
use Rattle.roll.proofs.Lists.{in_dropped, dropped_in}
use Rattle.roll.proofs.Orders.{same_is, same_so}
use Rattle.roll.proofs.Sounds.{within_added, added_within}

-- what the roll's type keeps of the table, taken out: within is decidable
pub current_sure : (ps : List Pair) (table : List (List Bool)) → ∥ Current ps table ∥₁ → Current ps table
current_sure ps table t s h ls lh = (
  λ e. ⊎_elim (λ w. w) (λ n. absurd (both_ways (says table s h) (no n) e)) (within_or_not ps s h),
  λ w. ∥∥₁_elim t (Bool-set _ _) (λ c. (c s h ls lh).1 w),
)
  where
    no : (Within ps s h → ⊥) → says table s h ≡ false
    no n = ∥∥₁_elim t (Bool-set _ _) (λ c. ⊎_elim (λ e. absurd (n ((c s h ls lh).0 e))) (λ e. e) (cases_Bool (says table s h)))

pub only_row : (k : ℕ) → k < 256 → RowOf k (set (replicate 256 false) k true)
only_row k l = record {
  alone = λ h lh. ⊎_elim
      (λ q. ap (λ x. get_or (set (replicate 256 false) k true) x false) q ∙ get_or-set_same (replicate 256 false) k true false (omega (arith, length-replicate 256 false)) ∙ sym (eq-eqb k h (sym q)))
      (λ n. get_or-set_other (replicate 256 false) k h true false n ∙ get_or-replicate 256 h false false lh ∙ sym (ne_eqb k h (λ q. n (sym q))))
      (cases_eq h k);
}

pub current_none : (table : List (List Bool)) → ((s h : ℕ) → s < 256 → h < 256 → says table s h ≡ eqb s h) → Current [] table
current_none table is s h ls lh = Decides-at (says table s h) (eqb s h) (is s h ls lh) (Decides-like (eqb s h) (within_same [] s h) (within_none s h) (Decides-eqb s h))

module _ (ps : List Pair) (m g : ℕ) (lm : m < 256) (lg : g < 256) (old new : List (List Bool)) (now : Current ps old) where
  pub current_joined : Joined m g old new → Current (added (pair m g) ps) new
  current_joined joined s h ls lh =
      Decides-at (says new s h) _ (joined s h ls lh)
      (Decides-like _ (added_within ps m g s h) (within_added ps m g s h)
      (Decides-or (says old s h) _ (now s h ls lh) (Decides-and (says old s m) (says old g h) (now s m ls lm) (now g h lg lh))))

  pub current_renewed : Renewed (dropped (pair m g) ps) m old new → Current (dropped (pair m g) ps) new
  current_renewed renewed s h ls lh = ⊎_elim
      (λ e. renewed.anew s ls e h)
      (λ e. Decides-at (says new s h) (says old s h) (renewed.stays s ls e h) (Decides-like (says old s h) (to e) (within_grows (dropped (pair m g) ps) ps (in_dropped (pair m g) ps) s h) (now s h ls lh)))
      (cases_Bool (says old s m))
    where
      back : Inside ps (pair m g ∷ dropped (pair m g) ps)
      back x i = ⊎_elim (λ e. inl (same_is x (pair m g) e)) (λ e. inr (dropped_in (pair m g) ps x i (λ q. both_ways (same x (pair m g)) e (same_so x (pair m g) q)))) (cases_Bool (same x (pair m g)))

      to : says old s m ≡ false → Within ps s h → Within (dropped (pair m g) ps) s h
      to e w = ⊎_elim (λ v. v)
          (λ v. absurd (both_ways (says old s m) e ((now s m ls lm).1 (within_grows (dropped (pair m g) ps) ps (in_dropped (pair m g) ps) s m v.0))))
          (within_more (dropped (pair m g) ps) m g s h (within_grows ps (pair m g ∷ dropped (pair m g) ps) back s h w))

-- the numbers of a pair of subjects are places of the table
pub in_table : (p : Pair) (m g : ℕ) → p ≡ pair m g → BothSubjects m g → (p.member < 256) × (p.group < 256)
in_table p m g is both = (omega (arith, both.0.1, ap (λ q. q.member) is), omega (arith, both.1.1, ap (λ q. q.group) is))

-- what one look at the table tells of two numbers
pub table_decides : (K : List Pair) (table : List (List Bool)) (m g : ℕ) (o : Result Pair RollFault) (b : Bool) (Q : Pair → Type 0) → ∥ Current K table ∥₁ → ((p : Pair) → Q p → b ≡ says table p.member p.group) → MatchResult o Q (λ _. b ≡ false) →
    MatchResult o (λ p. BothSubjects m g × (p ≡ pair m g)) (λ f. (f ≡ RollFault.BadNumber) × (BothSubjects m g → ⊥)) → IsTrue b ↔ WithinRoll K m g
table_decides K table m g (Ok p) b Q now look test both =
    let l = in_table p m g both.1 both.0 in
    let sure = current_sure K table now p.member p.group l.0 l.1 in
    let e = look p test in (
      λ t. (both.0.0, both.0.1, subst (λ q. Within K q.member q.group) both.1 (sure.0 (sym e ∙ t))),
      λ w. e ∙ sure.1 (subst (λ q. Within K q.member q.group) (sym both.1) w.2),
    )
table_decides K table m g (Err f) b Q now look test none = (λ t. absurd (both_ways b test t), λ w. absurd (none.1 (w.0, w.1)))
