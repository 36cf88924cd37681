-- A put and a taking of the same entry: neither is refused twice over, and the list is as before.
use Rattle.std.proofs.Common.{◌≡◌, ℕ, true, List, is_ok, None, Ok, Err, Result, sym, refl, subst, inr, ⊎_elim}
use Rattle.rights.specs.declared.entries.Entry.{Entry}
use Rattle.rights.specs.declared.faults.BookFault.{BookFault}
use Rattle.rights.specs.Checks.{First, fault_of}
use Rattle.rights.specs.Entries.{RisingEntries}
use Rattle.rights.specs.Lists.{In}
use Rattle.rights.proofs.Checks.{none_some}
use Rattle.book.specs.Effects.{with_entry, without_entry, put_checks, take_checks}
use Rattle.book.proofs.Members.{in_with, with_in, with_rises, in_without, without_in, without_rises, gone, same_members}

pub put_undone : (e : Entry) (es : List Entry) → RisingEntries es → (In e es → ⊥) → without_entry e (with_entry e es) ≡ es
put_undone e es up new =
    let vp = with_rises e es up new in
    same_members _ es (without_rises e _ vp) up
    (λ x i. ⊎_elim (λ p. absurd (gone e _ vp (subst (λ y. In y (without_entry e (with_entry e es))) p i))) (λ k. k) (in_with x e es (in_without x e _ i)))
    (λ x i. without_in x e _ (with_in x e es (inr i)) (λ p. new (subst (λ y. In y es) p i)))

-- what was put is not refused when it is taken
pub then_taken : {T : Type 0} (e : Entry) (es fs : List Entry) (most : ℕ) (r : Result T BookFault) → First (put_checks es most e) None → First (take_checks fs e) (fault_of r) → In e fs → is_ok r ≡ true
unfolding First
then_taken e es fs most (Ok x) put taken stands = refl
then_taken e es fs most (Err f) put taken stands =
    ⊎_elim (λ h. absurd (none_some _ h.1))
    (λ good. ⊎_elim (λ h. absurd (good.0 h.0)) (λ h. ⊎_elim (λ k. absurd (k.0 stands)) (λ k. absurd (none_some _ (sym k.1))) h.1) taken) put
