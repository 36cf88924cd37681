-- What a place in a rising list of entries tells: whether e stands there, and what with_entry and without_entry are.
use Rattle.std.proofs.Common.{◌≡◌, ℕ, zero, suc, ◌<◌, Bool, true, false, List, [], ◌∷◌, length, get_or, take, drop, Option, Ok, Err, Result, MatchResult, IsTrue, is_ok, ◌↔◌, sym, refl, ap, subst, inl, inr, ⊎_elim, arith}
use Rattle.std.specs.List.{insert, remove, AllByRecursion}
use Rattle.std.specs.List.Sorted.{IsBinarySearchResult, IsSearchInRange}
use Rattle.std.proofs.ByRecursion.{All-append, All-take, All-drop}
use Rattle.std.proofs.lemmas.Bool.{false≢true}
use Rattle.std.specs.Option.{ok_or}
use Rattle.std.specs.Result.{result_ok, result_err}
use Rattle.rights.specs.declared.entries.Entry.{Entry}
use Rattle.rights.specs.declared.faults.BookFault.{BookFault}
use Rattle.rights.specs.Entries.{Before, Proper, RisingEntries, before, same_entry}
use Rattle.rights.specs.Lists.{In}
use Rattle.rights.specs.contracts.entries.EntryOrd.TheImpl as entry_ord
use Rattle.rights.proofs.Derived.{entry_order}
use Rattle.rights.proofs.Order.{decides_before, decides_same, before_irreflexive, before_transitive, before_total}
use Rattle.book.specs.Effects.{with_entry, without_entry}
use Rattle.rising.proofs.Sought.{Belongs, sought}
use Rattle.book.specs.Places.{Parts, Finding}
use Rattle.book.proofs.Members.{all_in, in_get_or, stands_in, with_rises, all_with}

pub all_removed : {X : Type 0} (P : X → Type 0) (ys : List X) (i : ℕ) → AllByRecursion P ys → AllByRecursion P (remove ys i)
all_removed P ys i all = All-append P (take i ys) (drop (suc i) ys) (All-take P i ys all) (All-drop P (suc i) ys all)

pub rising_removed : (es : List Entry) (i : ℕ) → RisingEntries es → RisingEntries (remove es i)
rising_removed [] zero up = tt
rising_removed [] (suc i) up = tt
rising_removed (e ∷ es) zero up = up.1
rising_removed (e ∷ es) (suc i) up = (all_removed (Before e) es i up.0, rising_removed es i up.1)

-- ---- places

tail_parts : {X : Type 0} {Low : X → Type 0} {x : X} {xs : List X} {k : ℕ} → Parts Low (x ∷ xs) (suc k) → Parts Low xs k
tail_parts {X} {Low} {x} {xs} {k} p = record {
  within = let h = p.within in omega arith;
  below = λ i d h. p.below (suc i) d (omega arith);
  above = λ i d h l. p.above (suc i) d (omega arith) (omega arith);
}

asymmetric : (e f : Entry) → Before e f → Before f e → ⊥
asymmetric e f h k = before_irreflexive e (before_transitive e f e h k)

test_false : (e f : Entry) → (Before e f → ⊥) → before e f ≡ false
test_false e f h = go (before e f) refl
  where
    go : (b : Bool) → before e f ≡ b → before e f ≡ false
    go true test = absurd (h ((decides_before e f).0 test))
    go false test = test

-- an entry that stands in a rising list stands where it parts the list
pub parts_stands : (e : Entry) (es : List Entry) (k : ℕ) → RisingEntries es → Parts (λ f. Before f e) es k → In e es → (k < length es) × (get_or es k e ≡ e)
parts_stands e [] k up p i = absurd i
parts_stands e (f ∷ fs) zero up p (inl h) = (omega arith, sym h)
parts_stands e (f ∷ fs) zero up p (inr i) = absurd (p.above 0 e (omega arith) (omega arith) (all_in (Before f) e fs up.0 i))
parts_stands e (f ∷ fs) (suc k) up p (inl h) = absurd (before_irreflexive e (subst (λ x. Before x e) (sym h) (p.below 0 e (omega arith))))
parts_stands e (f ∷ fs) (suc k) up p (inr i) = let h = parts_stands e fs k up.1 (tail_parts p) i in (omega arith, h.1)

pub parts_with : (e : Entry) (es : List Entry) (k : ℕ) → Parts (λ f. Before f e) es k → (In e es → ⊥) → with_entry e es ≡ insert es k e
unfolding with_entry
parts_with e [] zero p new = refl
parts_with e [] (suc k) p new = let h = p.within in absurd (omega arith)
parts_with e (f ∷ fs) zero p new =
    let none = p.above 0 e (omega arith) (omega arith) in
    let first : Before e f = ⊎_elim (λ q. absurd (new (inl q))) (⊎_elim (λ h. h) (λ h. absurd (none h))) (before_total e f) in
    rw ((decides_before e f).1 first) refl
parts_with e (f ∷ fs) (suc k) p new =
    rw (test_false e f (asymmetric f e (p.below 0 e (omega arith)))) (ap (λ l. f ∷ l) (parts_with e fs k (tail_parts p) (λ i. new (inr i))))

pub stands_without : (e : Entry) (es : List Entry) (k : ℕ) → RisingEntries es → k < length es → get_or es k e ≡ e → without_entry e es ≡ remove es k
unfolding without_entry
stands_without e [] k up h at = absurd (omega arith)
stands_without e (f ∷ fs) zero up h at = rw ((decides_same e f).1 (sym at)) refl
stands_without e (f ∷ fs) (suc k) up h at =
    rw (test_other e f (λ q. before_irreflexive e (subst (λ x. Before x e) (sym q) (all_in (Before f) e fs up.0 (subst (λ x. In x fs) at (in_get_or fs k e (omega arith)))))))
    (ap (λ l. f ∷ l) (stands_without e fs k up.1 (omega arith) at))
  where
    test_other : (x y : Entry) → (x ≡ y → ⊥) → same_entry x y ≡ false
    test_other x y other = go (same_entry x y) refl
      where
        go : (b : Bool) → same_entry x y ≡ b → same_entry x y ≡ false
        go true test = absurd (other ((decides_same x y).0 test))
        go false test = test

-- the list with e at the place that parts it
module _ (e : Entry) (es : List Entry) (k : ℕ) (fits : Parts (λ f. Before f e) es k) (new : In e es → ⊥) where
  pub rising_inserted : RisingEntries es → RisingEntries (insert es k e)
  rising_inserted up = subst RisingEntries (parts_with e es k fits new) (with_rises e es up new)

  pub proper_inserted : Proper e → AllByRecursion Proper es → AllByRecursion Proper (insert es k e)
  proper_inserted h all = subst (AllByRecursion Proper) (parts_with e es k fits new) (all_with Proper e es h all)

-- what the library's binary search for e tells
pub found_entry : (e : Entry) (es : List Entry) (r : Result ℕ ℕ) → RisingEntries es → IsSearchInRange r (length es) → IsBinarySearchResult (λ f. (entry_ord.ghosts).cmp f e) es r → Finding e es r
found_entry e es r up room at = told r (sought (entry_ord.ghosts).cmp Before entry_order before_irreflexive before_transitive e es r up room at)
  where
    told : (r : Result ℕ ℕ) → MatchResult r (λ k. (k < length es) × (get_or es k e ≡ e)) (λ k. (In e es → ⊥) × Belongs (entry_ord.ghosts).cmp Before entry_order before_irreflexive before_transitive e es k) → Finding e es r
    told (Ok k) h = h
    told (Err k) h = (h.0, record { within = h.1.within; below = λ i d less. h.1.below i d (omega arith) less; above = λ i d le in' low. asymmetric _ _ low (h.1.above i d le in') })

-- a place is found exactly where the entry stands
pub found_stands : (e : Entry) (es : List Entry) (r : Result ℕ ℕ) → Finding e es r → IsTrue (is_ok r) ↔ In e es
found_stands e es (Ok k) h = ((λ _. stands_in e es k h.0 h.1), (λ _. refl))
found_stands e es (Err k) h = ((λ no_test. absurd (false≢true no_test)), (λ i. absurd (h.0 i)))

-- what was found, where a put passes on the place of what is new, and a taking that of what stands
module _ (e : Entry) (es : List Entry) where
  pub found_new : (r : Result ℕ ℕ) {o : Option ℕ} {m : Result ℕ BookFault} (k : ℕ) → Finding e es r → o ≡ result_err r → m ≡ ok_or o BookFault.Taken → m ≡ Ok k → Finding e es (Err k)
  found_new (Ok j) k h was gave is = absurd (cc)
  found_new (Err j) k h was gave is = let same : j ≡ k = cc in subst (λ i. Finding e es (Err i)) same h

  pub found_taken : (r : Result ℕ ℕ) {o : Option ℕ} {m : Result ℕ BookFault} (f : BookFault) → Finding e es r → o ≡ result_err r → m ≡ ok_or o BookFault.Taken → m ≡ Err f → In e es × (f ≡ BookFault.Taken)
  found_taken (Ok j) f h was gave is = (stands_in e es j h.0 h.1, cc)
  found_taken (Err j) f h was gave is = absurd (cc)

  pub found_old : (r : Result ℕ ℕ) {o : Option ℕ} {m : Result ℕ BookFault} (k : ℕ) → Finding e es r → o ≡ result_ok r → m ≡ ok_or o BookFault.Absent → m ≡ Ok k → Finding e es (Ok k)
  found_old (Ok j) k h was gave is = let same : j ≡ k = cc in subst (λ i. Finding e es (Ok i)) same h
  found_old (Err j) k h was gave is = absurd (cc)

  pub found_absent : (r : Result ℕ ℕ) {o : Option ℕ} {m : Result ℕ BookFault} (f : BookFault) → Finding e es r → o ≡ result_ok r → m ≡ ok_or o BookFault.Absent → m ≡ Err f → (In e es → ⊥) × (f ≡ BookFault.Absent)
  found_absent (Ok j) f h was gave is = absurd (cc)
  found_absent (Err j) f h was gave is = (h.0, cc)
