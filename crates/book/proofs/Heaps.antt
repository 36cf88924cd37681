-- Lists of cells that rise by key: what they hold, that it rises, and what one more cell, one less or another changes.
use Rattle.std.proofs.Common.{◌≡◌, ℕ, ◌+◌, ◌<◌, ◌⊎◌, List, [], ◌∷◌, ◌++◌, length, get_or, take, drop, Ok, Err, Result, false, Decides, sym, refl, ap, ◌∙◌, subst, inl, inr, ⊎_elim, append_assoc, arith}
use Rattle.std.specs.List.{list_all, AllByRecursion}
use Rattle.std.proofs.ByRecursion.{All-append, All-from_get_or, Decides-by_and}
use Rattle.std.proofs.lemmas.List.{length-take-le, length-drop, get_or-take, get_or-drop}
use Rattle.std.specs.List.Sorted.{IsNonDecreasingBy, IsBinarySearchResult, IsSearchInRange}
use Rattle.std.specs.Ordering.{MatchOrdering, ordering_index, is_lt}
use Rattle.std.specs.declared.cmp.Ordering.TheVariants.{Less, Equal, Greater}
use Rattle.std.proofs.lemmas.Cmp.{by_ranked}
use Rattle.std.proofs.lemmas.List.Sorted.{searchable_from_sorted}
use Rattle.std.proofs.lemmas.Bool.Decides.{Decides-ltb, Decides-and}
use Rattle.rights.specs.declared.entries.Entry.{Entry}
use Rattle.rights.specs.declared.vocabulary.Right.{Right}
use Rattle.rights.specs.Entries.{Before, RisingEntries}
use Rattle.rights.specs.Lists.{In, Rising}
use Rattle.rights.proofs.Derived.{then_order, same_where, bits}
use Rattle.rights.proofs.Order.{decides_then, then_transitive}
use Rattle.rising.proofs.Sought.{rising_get_or}
use Rattle.book.specs.declared.keyed.Cell.{Cell}
use Rattle.book.specs.Cells.{entry_of, unpacked, held, KeyBefore, key_before, climbs, key_cell, CellFinding}
use Rattle.book.specs.Effects.{with_entry, without_entry}
use Rattle.book.specs.Keys.{cell_key, entry_key}
use Rattle.book.specs.contracts.keyed.KeyOrd.TheImpl as key_ord
use Rattle.book.specs.contracts.keyed.KeyOrd.TheImpl.Laws as key_laws
use Rattle.book.proofs.Unpacked.{KeyOf, in_unpacked, unpacked_rises}
use Rattle.book.proofs.Members.{all_in, all_from_in, in_with, with_in, with_rises, in_without, without_in, without_rises, gone, same_members}

-- ---- the order of cells

decides_key : (c d : Cell) → Decides (key_before c d) (KeyBefore c d)
unfolding key_before KeyBefore
decides_key c d = decides_then _ _ _ (decides_then _ _ _ (Decides-ltb _ _))

pub decides_climbs : (cs : List Cell) → Decides (climbs cs) (Rising KeyBefore cs)
unfolding climbs
decides_climbs [] = ((λ _. tt), (λ _. refl))
decides_climbs (c ∷ cs) = Decides-and _ _ (Decides-by_and (key_before c) (KeyBefore c) (list_all (key_before c)) (decides_key c) refl (λ _ _. refl) cs) (decides_climbs cs)

-- the derived order of keys is that of cells
key_order : (c d : Cell) → MatchOrdering ((key_ord.ghosts).cmp (cell_key c) (cell_key d)) (KeyBefore c d) (cell_key c ≡ cell_key d) (KeyBefore d c)
unfolding KeyBefore
key_order c d =
    same_where (then_order c.subject d.subject (then_order c.table d.table (bits c.grantor d.grantor))) (cell_key c ≡ cell_key d)
    (λ w. λ i. record { subject = w.0 i; table = w.1.0 i; grantor = w.1.1 i })

key_less : (c : Cell) (e : Entry) → (key_ord.ghosts).cmp (cell_key c) (entry_key e) ≡ Less → KeyBefore c (key_cell e)
key_less c e is = subst (λ o. MatchOrdering o (KeyBefore c (key_cell e)) (cell_key c ≡ entry_key e) (KeyBefore (key_cell e) c)) is (key_order c (key_cell e))

key_greater : (c : Cell) (e : Entry) → (key_ord.ghosts).cmp (cell_key c) (entry_key e) ≡ Greater → KeyBefore (key_cell e) c
key_greater c e is = subst (λ o. MatchOrdering o (KeyBefore c (key_cell e)) (cell_key c ≡ entry_key e) (KeyBefore (key_cell e) c)) is (key_order c (key_cell e))

key_same : (c : Cell) (e : Entry) → (key_ord.ghosts).cmp (cell_key c) (entry_key e) ≡ Equal → KeyOf c e
key_same c e is =
    let q = subst (λ o. MatchOrdering o (KeyBefore c (key_cell e)) (cell_key c ≡ entry_key e) (KeyBefore (key_cell e) c)) is (key_order c (key_cell e)) in
    λ i. record { subject = (sym q i).subject; table = (sym q i).table; grantor = (sym q i).grantor; right = e.right }

pub key_irreflexive : (c d : Cell) → c.subject ≡ d.subject → c.table ≡ d.table → c.grantor ≡ d.grantor → KeyBefore c d → ⊥
unfolding KeyBefore
key_irreflexive c d s t x h = ⊎_elim (λ (k : c.subject < d.subject). omega arith) (λ k. ⊎_elim (λ (l : c.table < d.table). omega arith) (λ l. let m : c.grantor < d.grantor = l.1 in omega arith) k.1) h

pub key_transitive : (c d f : Cell) → KeyBefore c d → KeyBefore d f → KeyBefore c f
unfolding KeyBefore
key_transitive c d f = then_transitive _ _ _ (then_transitive _ _ _ (λ (h : c.grantor < d.grantor) (k : d.grantor < f.grantor). omega arith))

next_not_less : (c d : Cell) → KeyBefore c d → is_lt ((key_ord.ghosts).cmp (cell_key d) (cell_key c)) ≡ false
next_not_less c d h =
    by_ranked _ _ _ ((key_ord.ghosts).cmp (cell_key d) (cell_key c)) (key_order d c)
    (λ e k. absurd (key_irreflexive c c refl refl refl (key_transitive c d c h k)))
    (λ e k. ap is_lt e)
    (λ e k. ap is_lt e)

-- entries of cells in this order come in this order
pub entries_follow : (c d : Cell) (r q : Right) → KeyBefore c d → Before (entry_of c r) (entry_of d q)
unfolding KeyBefore Before
entries_follow c d r q h = ⊎_elim inl (λ k. inr (k.0, ⊎_elim inl (λ l. inr (l.0, inl l.1)) k.1)) h

-- ---- what a list of cells holds

pub held_append : (cs ds : List Cell) → held (cs ++ ds) ≡ held cs ++ held ds
held_append [] ds = refl
held_append (c ∷ cs) ds = ap (λ l. unpacked c ++ l) (held_append cs ds) ∙ sym (append_assoc (unpacked c) (held cs) (held ds))

pub in_append : {X : Type 0} (x : X) (xs ys : List X) → In x (xs ++ ys) → In x xs ⊎ In x ys
in_append x [] ys i = inr i
in_append x (y ∷ xs) ys (inl e) = inl (inl e)
in_append x (y ∷ xs) ys (inr i) = ⊎_elim (λ h. inl (inr h)) inr (in_append x xs ys i)

pub append_in : {X : Type 0} (x : X) (xs ys : List X) → In x xs ⊎ In x ys → In x (xs ++ ys)
append_in x [] ys (inl i) = absurd i
append_in x [] ys (inr i) = i
append_in x (y ∷ xs) ys (inl (inl e)) = inl e
append_in x (y ∷ xs) ys (inl (inr i)) = inr (append_in x xs ys (inl i))
append_in x (y ∷ xs) ys (inr i) = inr (append_in x xs ys (inr i))

pub in_held : (f : Entry) (cs : List Cell) → In f (held cs) → (c : Cell) × In c cs × In f (unpacked c)
in_held f [] i = absurd i
in_held f (c ∷ cs) i =
    ⊎_elim (λ h. (c, inl refl, h)) (λ h. let k = in_held f cs h in (k.0, inr k.1, k.2)) (in_append f (unpacked c) (held cs) i)

rising_append : (xs ys : List Entry) → RisingEntries xs → RisingEntries ys → ((x y : Entry) → In x xs → In y ys → Before x y) → RisingEntries (xs ++ ys)
rising_append [] ys up vp cross = vp
rising_append (x ∷ xs) ys up vp cross =
    (All-append (Before x) xs ys up.0 (all_from_in (Before x) ys (λ y j. cross x y (inl refl) j)), rising_append xs ys up.1 vp (λ z y i j. cross z y (inr i) j))

pub held_rises : (cs : List Cell) → Rising KeyBefore cs → RisingEntries (held cs)
held_rises [] up = tt
held_rises (c ∷ cs) up =
    rising_append (unpacked c) (held cs) (unpacked_rises c) (held_rises cs up.1) cross
  where
    cross : (x y : Entry) → In x (unpacked c) → In y (held cs) → Before x y
    cross x y i j =
        let d = in_held y cs j in
        let e = (in_unpacked x c i).0 in
        let f = (in_unpacked y d.0 d.2).0 in
        subst (λ z. Before z y) (sym e) (subst (Before (entry_of c x.right)) (sym f) (entries_follow c d.0 x.right y.right (all_in (KeyBefore c) d.0 cs up.0 d.1)))

-- ---- an entry more or less in the middle of a list

module _ (e : Entry) (xs ys u v : List Entry) (up : RisingEntries (xs ++ (u ++ ys))) (vp : RisingEntries (xs ++ (v ++ ys))) where
  middle : (f : Entry) (w : List Entry) → In f (xs ++ (w ++ ys)) → In f xs ⊎ (In f w ⊎ In f ys)
  middle f w i = ⊎_elim inl (λ j. inr (in_append f w ys j)) (in_append f xs (w ++ ys) i)

  at_middle : (f : Entry) (w : List Entry) → In f xs ⊎ (In f w ⊎ In f ys) → In f (xs ++ (w ++ ys))
  at_middle f w h = append_in f xs (w ++ ys) (⊎_elim inl (λ k. inr (append_in f w ys k)) h)

  pub put_middle : (In e (xs ++ (u ++ ys)) → ⊥) → ((f : Entry) → In f v → (f ≡ e) ⊎ In f u) → ((f : Entry) → (f ≡ e) ⊎ In f u → In f v) → xs ++ (v ++ ys) ≡ with_entry e (xs ++ (u ++ ys))
  put_middle new down back =
      same_members _ _ vp (with_rises e _ up new)
      (λ f i. with_in f e _ (⊎_elim (λ h. inr (at_middle f u (inl h))) (⊎_elim (λ h. ⊎_elim inl (λ k. inr (at_middle f u (inr (inl k)))) (down f h)) (λ h. inr (at_middle f u (inr (inr h))))) (middle f v i)))
      (λ f i. ⊎_elim (λ p. at_middle f v (inr (inl (back f (inl p)))))
      (λ j. at_middle f v (⊎_elim inl (⊎_elim (λ h. inr (inl (back f (inr h)))) (λ h. inr (inr h))) (middle f u j))) (in_with f e _ i))

  pub take_middle : (In e xs → ⊥) → (In e ys → ⊥) → (In e v → ⊥) → ((f : Entry) → In f v → In f u) → ((f : Entry) → In f u → (f ≡ e → ⊥) → In f v) → xs ++ (v ++ ys) ≡ without_entry e (xs ++ (u ++ ys))
  take_middle no_x no_y no_v down back =
      same_members _ _ vp (without_rises e _ up)
      (λ f i. without_in f e _ (at_middle f u (⊎_elim inl (⊎_elim (λ h. inr (inl (down f h))) (λ h. inr (inr h))) (middle f v i)))
      (λ p. ⊎_elim (λ h. no_x (subst (λ g. In g xs) p h)) (⊎_elim (λ h. no_v (subst (λ g. In g v) p h)) (λ h. no_y (subst (λ g. In g ys) p h))) (middle f v i)))
      (λ f i.
      let other : f ≡ e → ⊥ = λ p. gone e _ up (subst (λ g. In g (without_entry e (xs ++ (u ++ ys)))) p i) in
      at_middle f v (⊎_elim inl (⊎_elim (λ h. inr (inl (back f h other))) (λ h. inr (inr h))) (middle f u (in_without f e _ i))))

-- ---- cells beside the key of an entry

key_parts : (c : Cell) (e : Entry) → KeyOf c e → KeyBefore c (key_cell e) → ⊥
key_parts c e k = key_irreflexive c (key_cell e) (sym (ap (λ x. x.subject) k)) (sym (ap (λ x. x.table) k)) (sym (ap (λ x. x.grantor) k))

key_parts_after : (c : Cell) (e : Entry) → KeyOf c e → KeyBefore (key_cell e) c → ⊥
key_parts_after c e k = key_irreflexive (key_cell e) c (ap (λ x. x.subject) k) (ap (λ x. x.table) k) (ap (λ x. x.grantor) k)

pub not_below : (e : Entry) (cs : List Cell) → AllByRecursion (λ c. KeyBefore c (key_cell e)) cs → In e (held cs) → ⊥
not_below e cs all i =
    let h = in_held e cs i in
    key_parts h.0 e (in_unpacked e h.0 h.2).0 (all_in (λ c. KeyBefore c (key_cell e)) h.0 cs all h.1)

pub not_after : (e : Entry) (cs : List Cell) → AllByRecursion (KeyBefore (key_cell e)) cs → In e (held cs) → ⊥
not_after e cs all i =
    let h = in_held e cs i in
    key_parts_after h.0 e (in_unpacked e h.0 h.2).0 (all_in (KeyBefore (key_cell e)) h.0 cs all h.1)

-- what the library's binary search for the key of e tells of a list that rises by key
module _ (e : Entry) (cs : List Cell) (up : Rising KeyBefore cs) where
  answers_rise : IsNonDecreasingBy (λ c. ordering_index ((key_ord.ghosts).cmp (cell_key c) (entry_key e))) cs
  answers_rise = searchable_from_sorted key_laws.total-law cell_key cs (entry_key e) (λ k d lo in'. next_not_less _ _ (rising_get_or KeyBefore cs k (k + 1) d up (omega arith) in'))

  pub found_cell : (r : Result ℕ ℕ) → IsSearchInRange r (length cs) → IsBinarySearchResult (λ c. (key_ord.ghosts).cmp (cell_key c) (entry_key e)) cs r → CellFinding e cs r
  found_cell (Ok k) room at = (room, key_same (get_or cs k (key_cell e)) e (at (key_cell e)))
  found_cell (Err k) room at =
      let p = at answers_rise in
      let front = length-take-le k cs room in
      let back = length-drop k cs in (
        room,
        All-from_get_or (λ c. KeyBefore c (key_cell e)) (take k cs) (key_cell e) (λ i h. subst (λ c. KeyBefore c (key_cell e)) (sym (get_or-take k cs i (key_cell e) (omega arith))) (key_less (get_or cs i (key_cell e)) e (p.0 i (key_cell e) (omega arith) (omega arith)))),
        All-from_get_or (KeyBefore (key_cell e)) (drop k cs) (key_cell e) (λ i h. subst (KeyBefore (key_cell e)) (sym (get_or-drop k cs i (key_cell e))) (key_greater (get_or cs (k + i) (key_cell e)) e (p.1 (k + i) (key_cell e) (omega arith) (omega arith)))),
      )
