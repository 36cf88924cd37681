-- Laws of rising lists of entries: what with_entry and without_entry hold, how long they are, that they rise,
-- and that two rising lists with the same members are one.
use Rattle.std.proofs.Common.{◌≡◌, ℕ, zero, suc, ◌+◌, ◌<◌, Bool, true, false, cond, ◌⊎◌, List, [], ◌∷◌, length, get_or, sym, refl, ◌∙◌, subst, inl, inr, ⊎_elim, arith}
use Rattle.std.specs.List.{AllByRecursion}
use Rattle.std.proofs.ByRecursion.{All-weaker}
use Rattle.std.proofs.lemmas.Bool.Decides.{not_from_Decides}
use Rattle.rights.specs.declared.entries.Entry.{Entry}
use Rattle.rights.specs.Entries.{Before, RisingEntries, before, same_entry}
use Rattle.rights.specs.Lists.{In}
use Rattle.rights.proofs.Order.{decides_before, decides_same, before_irreflexive, before_transitive, before_total}
use Rattle.book.specs.Effects.{with_entry, without_entry}

pub all_in : {X : Type 0} (P : X → Type 0) (x : X) (xs : List X) → AllByRecursion P xs → In x xs → P x
all_in P x [] h i = absurd i
all_in P x (y ∷ ys) h (inl e) = subst P (sym e) h.0
all_in P x (y ∷ ys) h (inr i) = all_in P x ys h.1 i

pub all_from_in : {X : Type 0} (P : X → Type 0) (xs : List X) → ((x : X) → In x xs → P x) → AllByRecursion P xs
all_from_in P [] h = tt
all_from_in P (x ∷ xs) h = (h x (inl refl), all_from_in P xs (λ y i. h y (inr i)))

pub in_get_or : {X : Type 0} (xs : List X) (k : ℕ) (d : X) → k < length xs → In (get_or xs k d) xs
in_get_or [] k d h = omega arith
in_get_or (x ∷ xs) zero d h = inl refl
in_get_or (x ∷ xs) (suc k) d h = inr (in_get_or xs k d (omega arith))

pub stands_in : {X : Type 0} (x : X) (xs : List X) (k : ℕ) → k < length xs → get_or xs k x ≡ x → In x xs
stands_in x xs k h at = subst (λ y. In y xs) at (in_get_or xs k x h)

not_before : (e f : Entry) → before e f ≡ false → Before e f → ⊥
not_before e f no_test h = not_from_Decides _ (decides_before e f) no_test h

-- ---- with_entry

pub in_with : (f e : Entry) (es : List Entry) → In f (with_entry e es) → (f ≡ e) ⊎ In f es
unfolding with_entry
in_with f e [] h = h
in_with f e (g ∷ gs) h = go (in_with f e gs) (before e g) h
  where
    go : (In f (with_entry e gs) → (f ≡ e) ⊎ In f gs) → (b : Bool) → In f (cond b (e ∷ g ∷ gs) (g ∷ with_entry e gs)) → (f ≡ e) ⊎ In f (g ∷ gs)
    go more true i = i
    go more false i = ⊎_elim (λ p. inr (inl p)) (λ j. ⊎_elim inl (λ k. inr (inr k)) (more j)) i

pub with_in : (f e : Entry) (es : List Entry) → (f ≡ e) ⊎ In f es → In f (with_entry e es)
unfolding with_entry
with_in f e [] h = h
with_in f e (g ∷ gs) h = go (with_in f e gs) (before e g) h
  where
    go : ((f ≡ e) ⊎ In f gs → In f (with_entry e gs)) → (b : Bool) → (f ≡ e) ⊎ In f (g ∷ gs) → In f (cond b (e ∷ g ∷ gs) (g ∷ with_entry e gs))
    go more true i = i
    go more false i = ⊎_elim (λ p. inr (more (inl p))) (⊎_elim inl (λ k. inr (more (inr k)))) i

pub length_with : (e : Entry) (es : List Entry) → length (with_entry e es) ≡ length es + 1
unfolding with_entry
length_with e [] = omega arith
length_with e (g ∷ gs) = go (length_with e gs) (before e g)
  where
    go : length (with_entry e gs) ≡ length gs + 1 → (b : Bool) → length (cond b (e ∷ g ∷ gs) (g ∷ with_entry e gs)) ≡ length (g ∷ gs) + 1
    go more true = omega arith
    go more false = omega arith

pub all_with : (P : Entry → Type 0) (e : Entry) (es : List Entry) → P e → AllByRecursion P es → AllByRecursion P (with_entry e es)
all_with P e es h all = all_from_in P _ (λ f i. ⊎_elim (λ p. subst P (sym p) h) (all_in P f es all) (in_with f e es i))

pub with_rises : (e : Entry) (es : List Entry) → RisingEntries es → (In e es → ⊥) → RisingEntries (with_entry e es)
unfolding with_entry
with_rises e [] up new = (tt, tt)
with_rises e (g ∷ gs) up new = go (with_rises e gs up.1 (λ i. new (inr i))) (before e g) refl
  where
    later : Before e g → AllByRecursion (Before e) gs
    later h = All-weaker (Before g) (Before e) (λ f k. before_transitive e g f h k) gs up.0

    earlier : (Before e g → ⊥) → Before g e
    earlier h = ⊎_elim (λ p. absurd (new (inl p))) (⊎_elim (λ k. absurd (h k)) (λ k. k)) (before_total e g)

    go : RisingEntries (with_entry e gs) → (b : Bool) → before e g ≡ b → RisingEntries (cond b (e ∷ g ∷ gs) (g ∷ with_entry e gs))
    go more true test = let h = (decides_before e g).0 test in ((h, later h), up)
    go more false test = (all_with (Before g) e gs (earlier (not_before e g test)) up.0, more)

-- ---- without_entry

pub in_without : (f e : Entry) (es : List Entry) → In f (without_entry e es) → In f es
unfolding without_entry
in_without f e [] h = h
in_without f e (g ∷ gs) h = go (in_without f e gs) (same_entry e g) h
  where
    go : (In f (without_entry e gs) → In f gs) → (b : Bool) → In f (cond b gs (g ∷ without_entry e gs)) → In f (g ∷ gs)
    go more true i = inr i
    go more false i = ⊎_elim inl (λ j. inr (more j)) i

-- e itself is gone from a rising list
pub gone : (e : Entry) (es : List Entry) → RisingEntries es → In e (without_entry e es) → ⊥
unfolding without_entry
gone e [] up h = h
gone e (g ∷ gs) up h = go (gone e gs up.1) (same_entry e g) refl h
  where
    go : (In e (without_entry e gs) → ⊥) → (b : Bool) → same_entry e g ≡ b → In e (cond b gs (g ∷ without_entry e gs)) → ⊥
    go more true test i = before_irreflexive e (subst (λ x. Before x e) (sym ((decides_same e g).0 test)) (all_in (Before g) e gs up.0 i))
    go more false test i = ⊎_elim (λ p. not_from_Decides _ (decides_same e g) test p) more i

pub without_in : (f e : Entry) (es : List Entry) → In f es → (f ≡ e → ⊥) → In f (without_entry e es)
unfolding without_entry
without_in f e [] h other = h
without_in f e (g ∷ gs) h other = go (λ i. without_in f e gs i other) (same_entry e g) refl h
  where
    go : (In f gs → In f (without_entry e gs)) → (b : Bool) → same_entry e g ≡ b → In f (g ∷ gs) → In f (cond b gs (g ∷ without_entry e gs))
    go more true test i = ⊎_elim (λ p. absurd (other (p ∙ sym ((decides_same e g).0 test)))) (λ j. j) i
    go more false test i = ⊎_elim inl (λ j. inr (more j)) i

pub all_without : (P : Entry → Type 0) (e : Entry) (es : List Entry) → AllByRecursion P es → AllByRecursion P (without_entry e es)
all_without P e es all = all_from_in P _ (λ f i. all_in P f es all (in_without f e es i))

pub without_rises : (e : Entry) (es : List Entry) → RisingEntries es → RisingEntries (without_entry e es)
unfolding without_entry
without_rises e [] up = tt
without_rises e (g ∷ gs) up = go (without_rises e gs up.1) (same_entry e g)
  where
    go : RisingEntries (without_entry e gs) → (b : Bool) → RisingEntries (cond b gs (g ∷ without_entry e gs))
    go more true = up.1
    go more false = (all_without (Before g) e gs up.0, more)

pub length_without : (e : Entry) (es : List Entry) → In e es → length (without_entry e es) + 1 ≡ length es
unfolding without_entry
length_without e [] h = absurd h
length_without e (g ∷ gs) h = go (length_without e gs) (same_entry e g) refl h
  where
    go : (In e gs → length (without_entry e gs) + 1 ≡ length gs) → (b : Bool) → same_entry e g ≡ b → In e (g ∷ gs) → length (cond b gs (g ∷ without_entry e gs)) + 1 ≡ length (g ∷ gs)
    go more true test i = omega arith
    go more false test i = ⊎_elim (λ p. absurd (not_from_Decides _ (decides_same e g) test p)) (λ j. let k = more j in omega arith) i

-- ---- one list for one set of members

smaller_not_in : (e : Entry) (es : List Entry) → AllByRecursion (Before e) es → In e es → ⊥
smaller_not_in e es after i = before_irreflexive e (all_in (Before e) e es after i)

pub same_members : (es fs : List Entry) → RisingEntries es → RisingEntries fs → ((x : Entry) → In x es → In x fs) → ((x : Entry) → In x fs → In x es) → es ≡ fs
same_members [] [] up vp to from = refl
same_members [] (f ∷ fs) up vp to from = absurd (from f (inl refl))
same_members (e ∷ es) [] up vp to from = absurd (to e (inl refl))
same_members (e ∷ es) (f ∷ fs) up vp to from =
    λ i. first i ∷ same_members es fs up.1 vp.1 (λ x j. rest x j) (λ x j. back x j) i
  where
    first : e ≡ f
    first =
        ⊎_elim (λ p. p)
        (λ j. ⊎_elim sym (λ k. absurd (before_irreflexive e (before_transitive e f e (all_in (Before e) f es up.0 k) (all_in (Before f) e fs vp.0 j)))) (from f (inl refl)))
        (to e (inl refl))

    rest : (x : Entry) → In x es → In x fs
    rest x j =
        ⊎_elim (λ p. absurd (smaller_not_in e es up.0 (subst (λ y. In y es) (p ∙ sym first) j))) (λ k. k) (to x (inr j))

    back : (x : Entry) → In x fs → In x es
    back x j =
        ⊎_elim (λ p. absurd (smaller_not_in f fs vp.0 (subst (λ y. In y fs) (p ∙ first) j))) (λ k. k) (from x (inr j))
