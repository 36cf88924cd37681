-- What a turned bit, a new cell or a cell less makes of the entries of a list of cells.
use Rattle.std.proofs.Common.{◌≡◌, ℕ, zero, suc, ◌<◌, ◌≤◌, true, false, ◌⊎◌, List, [], ◌∷◌, ◌++◌, length, get_or, take, drop, set, Err, Decides, sym, refl, ap, ◌∙◌, subst, inl, inr, ⊎_elim, arith}
use Rattle.std.specs.List.{insert, remove, AllByRecursion}
use Rattle.std.proofs.ByRecursion.{All-append, All-weaker, All-take, All-drop, All-get_or}
use Rattle.std.proofs.lemmas.List.{append-nil, set-get_or, set_split}
use Rattle.std.proofs.lemmas.Bool.{false≢true}
use Rattle.rights.specs.declared.entries.Entry.{Entry}
use Rattle.rights.specs.Bits.{bit}
use Rattle.rights.specs.Entries.{Proper, RisingEntries}
use Rattle.rights.specs.Lists.{In, Rising}
use Rattle.book.specs.declared.keyed.Cell.{Cell}
use Rattle.book.specs.Cells.{has, unpacked, held, KeyBefore, turned, key_cell, CellFinding}
use Rattle.book.specs.Effects.{with_entry, without_entry}
use Rattle.book.proofs.Counts.{Orderly, held_parts}
use Rattle.book.proofs.Heaps.{key_transitive, held_append, held_rises, put_middle, take_middle, not_below, not_after, in_append, append_in}
use Rattle.book.proofs.Members.{all_with, all_without, length_with, length_without}
use Rattle.book.proofs.Unpacked.{KeyOf, in_unpacked, holds_set, in_turned, turned_on, turned_off, turned_rest, empty_map, none_set, unpacked_rises}

-- ---- keys

rekey_left : (c d : Cell) (e : Entry) → KeyOf c e → KeyBefore c d → KeyBefore (key_cell e) d
unfolding KeyBefore
rekey_left c d e k h = subst (λ x. KeyBefore (key_cell x) d) (sym k) h

rekey_right : (c d : Cell) (e : Entry) → KeyOf c e → KeyBefore d c → KeyBefore d (key_cell e)
unfolding KeyBefore
rekey_right c d e k h = subst (λ x. KeyBefore d (key_cell x)) (sym k) h

key_left : (c d : Cell) (e : Entry) → KeyOf c e → KeyBefore (key_cell e) d → KeyBefore c d
unfolding KeyBefore
key_left c d e k h = subst (λ x. KeyBefore (key_cell x) d) k h

key_right : (c d : Cell) (e : Entry) → KeyOf c e → KeyBefore d (key_cell e) → KeyBefore d c
unfolding KeyBefore
key_right c d e k h = subst (λ x. KeyBefore d (key_cell x)) k h

-- the cells before and after the one that has the key of e
pub cells_below : (e : Entry) (cs : List Cell) (i : ℕ) (d : Cell) → Rising KeyBefore cs → i < length cs → KeyOf (get_or cs i d) e → AllByRecursion (λ c. KeyBefore c (key_cell e)) (take i cs)
cells_below e [] i d up h k = absurd (omega arith)
cells_below e (c ∷ cs) zero d up h k = tt
cells_below e (c ∷ cs) (suc i) d up h k =
    (rekey_right (get_or cs i d) c e k (All-get_or (KeyBefore c) cs i d (omega arith) up.0), cells_below e cs i d up.1 (omega arith) k)

pub cells_after : (e : Entry) (cs : List Cell) (i : ℕ) (d : Cell) → Rising KeyBefore cs → i < length cs → KeyOf (get_or cs i d) e → AllByRecursion (KeyBefore (key_cell e)) (drop (suc i) cs)
cells_after e [] i d up h k = absurd (omega arith)
cells_after e (c ∷ cs) zero d up h k = All-weaker (KeyBefore c) (KeyBefore (key_cell e)) (λ x l. rekey_left c x e k l) cs up.0
cells_after e (c ∷ cs) (suc i) d up h k = cells_after e cs i d up.1 (omega arith) k

rising_front : (i : ℕ) (cs : List Cell) → Rising KeyBefore cs → Rising KeyBefore (take i cs)
rising_front zero cs up = tt
rising_front (suc i) [] up = tt
rising_front (suc i) (c ∷ cs) up = (All-take (KeyBefore c) i cs up.0, rising_front i cs up.1)

rising_back : (i : ℕ) (cs : List Cell) → Rising KeyBefore cs → Rising KeyBefore (drop i cs)
rising_back zero cs up = up
rising_back (suc i) [] up = tt
rising_back (suc i) (c ∷ cs) up = rising_back i cs up.1

-- two lists on either side of a key
module _ (e : Entry) (bs ds : List Cell) (low : AllByRecursion (λ c. KeyBefore c (key_cell e)) bs) (high : AllByRecursion (KeyBefore (key_cell e)) ds) where
  joined_rises : (bs' : List Cell) → AllByRecursion (λ c. KeyBefore c (key_cell e)) bs' → Rising KeyBefore bs' → Rising KeyBefore ds → Rising KeyBefore (bs' ++ ds)
  joined_rises [] l up vp = vp
  joined_rises (a ∷ rest) l up vp =
      (All-append (KeyBefore a) rest ds up.0 (All-weaker (KeyBefore (key_cell e)) (KeyBefore a) (λ d h. key_transitive a (key_cell e) d l.0 h) ds high), joined_rises rest l.1 up.1 vp)

  cell_rises : (c : Cell) → KeyOf c e → (bs' : List Cell) → AllByRecursion (λ x. KeyBefore x (key_cell e)) bs' → Rising KeyBefore bs' → Rising KeyBefore ds → Rising KeyBefore (bs' ++ c ∷ ds)
  cell_rises c k [] l up vp = (All-weaker (KeyBefore (key_cell e)) (KeyBefore c) (λ d h. key_left c d e k h) ds high, vp)
  cell_rises c k (a ∷ rest) l up vp =
      (All-append (KeyBefore a) rest (c ∷ ds) up.0 (key_right c a e k l.0, All-weaker (KeyBefore (key_cell e)) (KeyBefore a) (λ d h. key_transitive a (key_cell e) d l.0 h) ds high), cell_rises c k rest l.1 up.1 vp)

-- ---- entries

some_in : {X : Type 0} (x : X) (xs : List X) → In x xs → 0 < length xs
some_in x [] i = absurd i
some_in x (y ∷ ys) i = omega arith

only_one : {X : Type 0} (x y : X) (xs : List X) → length xs ≡ 1 → In x xs → In y xs → y ≡ x
only_one x y [] one i j = absurd i
only_one x y (z ∷ []) one i j = ⊎_elim (λ q. q) absurd j ∙ sym (⊎_elim (λ q. q) absurd i)
only_one x y (z ∷ w ∷ xs) one i j = absurd (omega arith)

held_cell : (bs ds : List Cell) (c : Cell) → held (bs ++ c ∷ ds) ≡ held bs ++ (unpacked c ++ held ds)
held_cell bs ds c = held_append bs (c ∷ ds)

put_settles : (e : Entry) (old : List Entry) (cs : List Cell) (most : ℕ) → held cs ≡ with_entry e old → Rising KeyBefore cs → AllByRecursion (λ c. 0 < length (unpacked c)) cs → AllByRecursion Proper old → Proper e → length old < most → Orderly cs most
put_settles e old cs most is up filled all good room = record {
  climbing = up;
  proper = subst (AllByRecursion Proper) (sym is) (all_with Proper e old good all);
  filled = filled;
  few = let n = ap length is ∙ length_with e old in omega arith;
}

take_settles : (e : Entry) (old : List Entry) (cs : List Cell) (most : ℕ) → held cs ≡ without_entry e old → Rising KeyBefore cs → AllByRecursion (λ c. 0 < length (unpacked c)) cs → AllByRecursion Proper old → In e old → length old ≤ most → Orderly cs most
take_settles e old cs most is up filled all stands room = record {
  climbing = up;
  proper = subst (AllByRecursion Proper) (sym is) (all_without Proper e old all);
  filled = filled;
  few = let n = ap length is in let m = length_without e old stands in omega arith;
}

-- what the list of cells before, bs, ds and u between, held
module _ (e : Entry) (bs ds : List Cell) (u : List Entry) (low : AllByRecursion (λ c. KeyBefore c (key_cell e)) bs) (high : AllByRecursion (KeyBefore (key_cell e)) ds) (up : Rising KeyBefore bs) (vp : Rising KeyBefore ds) (was : RisingEntries (held bs ++ (u ++ held ds))) where
  -- e stands in the middle or nowhere
  pub only_middle : In e (held bs ++ (u ++ held ds)) → In e u
  only_middle i =
      ⊎_elim (λ h. absurd (not_below e bs low h)) (λ h. ⊎_elim (λ k. k) (λ k. absurd (not_after e ds high k)) (in_append e u (held ds) h)) (in_append e (held bs) (u ++ held ds) i)

  pub from_middle : In e u → In e (held bs ++ (u ++ held ds))
  from_middle i = append_in e (held bs) (u ++ held ds) (inr (append_in e u (held ds) (inl i)))

  module _ (c : Cell) (key : KeyOf c e) where
    now_rises : Rising KeyBefore (bs ++ c ∷ ds)
    now_rises = cell_rises e bs ds low high c key bs low up vp

    pub put_is : (In e u → ⊥) → ((f : Entry) → In f (unpacked c) → (f ≡ e) ⊎ In f u) → ((f : Entry) → (f ≡ e) ⊎ In f u → In f (unpacked c)) → held (bs ++ c ∷ ds) ≡ with_entry e (held bs ++ (u ++ held ds))
    put_is new down back =
        held_cell bs ds c ∙ put_middle e (held bs) (held ds) u (unpacked c) was (subst RisingEntries (held_cell bs ds c) (held_rises _ now_rises)) (λ i. new (only_middle i)) down back

    pub put_orderly : (most : ℕ) → held (bs ++ c ∷ ds) ≡ with_entry e (held bs ++ (u ++ held ds)) → In e (unpacked c) → AllByRecursion (λ x. 0 < length (unpacked x)) bs → AllByRecursion (λ x. 0 < length (unpacked x)) ds → AllByRecursion Proper (held bs ++ (u ++ held ds)) → Proper e → length (held bs ++ (u ++ held ds)) < most → Orderly (bs ++ c ∷ ds) most
    put_orderly most is mine fa fd all good room =
        put_settles e _ (bs ++ c ∷ ds) most is now_rises (All-append (λ x. 0 < length (unpacked x)) bs (c ∷ ds) fa (some_in e (unpacked c) mine, fd)) all good room

    pub take_is : (In e (unpacked c) → ⊥) → ((f : Entry) → In f (unpacked c) → In f u) → ((f : Entry) → In f u → (f ≡ e → ⊥) → In f (unpacked c)) → held (bs ++ c ∷ ds) ≡ without_entry e (held bs ++ (u ++ held ds))
    take_is out down back =
        held_cell bs ds c ∙ take_middle e (held bs) (held ds) u (unpacked c) was (subst RisingEntries (held_cell bs ds c) (held_rises _ now_rises)) (not_below e bs low) (not_after e ds high) out down back

    pub take_orderly : (most : ℕ) → held (bs ++ c ∷ ds) ≡ without_entry e (held bs ++ (u ++ held ds)) → 0 < length (unpacked c) → AllByRecursion (λ x. 0 < length (unpacked x)) bs → AllByRecursion (λ x. 0 < length (unpacked x)) ds → AllByRecursion Proper (held bs ++ (u ++ held ds)) → In e u → length (held bs ++ (u ++ held ds)) ≤ most → Orderly (bs ++ c ∷ ds) most
    take_orderly most is some fa fd all stands room =
        take_settles e _ (bs ++ c ∷ ds) most is now_rises (All-append (λ x. 0 < length (unpacked x)) bs (c ∷ ds) fa (some, fd)) all (from_middle stands) room

  left_rises : Rising KeyBefore (bs ++ ds)
  left_rises = joined_rises e bs ds low high bs low up vp

  pub drop_is : ((f : Entry) → In f u → f ≡ e) → held (bs ++ ds) ≡ without_entry e (held bs ++ (u ++ held ds))
  drop_is alone =
      held_append bs ds ∙ take_middle e (held bs) (held ds) u [] was (subst RisingEntries (held_append bs ds) (held_rises _ left_rises)) (not_below e bs low) (not_after e ds high) (λ i. i) (λ f i. absurd i) (λ f i other. absurd (other (alone f i)))

  pub drop_orderly : (most : ℕ) → held (bs ++ ds) ≡ without_entry e (held bs ++ (u ++ held ds)) → AllByRecursion (λ x. 0 < length (unpacked x)) bs → AllByRecursion (λ x. 0 < length (unpacked x)) ds → AllByRecursion Proper (held bs ++ (u ++ held ds)) → In e u → length (held bs ++ (u ++ held ds)) ≤ most → Orderly (bs ++ ds) most
  drop_orderly most is fa fd all stands room =
      take_settles e _ (bs ++ ds) most is left_rises (All-append (λ x. 0 < length (unpacked x)) bs ds fa fd) all (from_middle stands) room

-- ---- over the whole list

whole : (cs : List Cell) (i : ℕ) (d : Cell) → i < length cs → cs ≡ take i cs ++ get_or cs i d ∷ drop (suc i) cs
whole cs i d in' = sym (set-get_or cs i d) ∙ set_split cs i (get_or cs i d) in'

pub held_whole : (cs : List Cell) (i : ℕ) (d : Cell) → i < length cs → held cs ≡ held (take i cs) ++ (unpacked (get_or cs i d) ++ held (drop (suc i) cs))
held_whole cs i d in' = ap held (whole cs i d in') ∙ held_cell (take i cs) (drop (suc i) cs) (get_or cs i d)

-- the cell at place i has the key of e
module _ (e : Entry) (cs : List Cell) (most i : ℕ) (d : Cell) (o : Orderly cs most) (in' : i < length cs) (key : KeyOf (get_or cs i d) e) where
  low : AllByRecursion (λ c. KeyBefore c (key_cell e)) (take i cs)
  low = cells_below e cs i d o.climbing in' key

  high : AllByRecursion (KeyBefore (key_cell e)) (drop (suc i) cs)
  high = cells_after e cs i d o.climbing in' key

  up : Rising KeyBefore (take i cs)
  up = rising_front i cs o.climbing

  vp : Rising KeyBefore (drop (suc i) cs)
  vp = rising_back (suc i) cs o.climbing

  parts : held cs ≡ held (take i cs) ++ (unpacked (get_or cs i d) ++ held (drop (suc i) cs))
  parts = held_whole cs i d in'

  was : RisingEntries (held (take i cs) ++ (unpacked (get_or cs i d) ++ held (drop (suc i) cs)))
  was = subst RisingEntries parts (held_rises cs o.climbing)

  all : AllByRecursion Proper (held (take i cs) ++ (unpacked (get_or cs i d) ++ held (drop (suc i) cs)))
  all = subst (AllByRecursion Proper) parts o.proper

  pub stands_if_set : Decides (has (get_or cs i d).rights (bit e.right)) (In e (held cs))
  stands_if_set = (
    (λ set'. subst (In e) (sym parts) (from_middle e (take i cs) (drop (suc i) cs) (unpacked (get_or cs i d)) low high up vp was (holds_set (get_or cs i d) e key set'))),
    (λ h. (in_unpacked e (get_or cs i d) (only_middle e (take i cs) (drop (suc i) cs) (unpacked (get_or cs i d)) low high up vp was (subst (In e) parts h))).1),
  )

  module _ (unset : has (get_or cs i d).rights (bit e.right) ≡ false) (good : Proper e) (room : length (held cs) < most) where
    on_is : held (take i cs ++ turned (get_or cs i d) e.right ∷ drop (suc i) cs) ≡ with_entry e (held (take i cs) ++ (unpacked (get_or cs i d) ++ held (drop (suc i) cs)))
    on_is =
        put_is e (take i cs) (drop (suc i) cs) (unpacked (get_or cs i d)) low high up vp was (turned (get_or cs i d) e.right) key
        (λ h. false≢true (sym unset ∙ (in_unpacked e (get_or cs i d) h).1)) (in_turned (get_or cs i d) e key) (turned_on (get_or cs i d) e key unset)

    pub put_set : held (set cs i (turned (get_or cs i d) e.right)) ≡ with_entry e (held cs)
    put_set = ap held (set_split cs i _ in') ∙ on_is ∙ ap (with_entry e) (sym parts)

    pub put_set_orderly : Orderly (set cs i (turned (get_or cs i d) e.right)) most
    put_set_orderly =
        subst (λ l. Orderly l most) (sym (set_split cs i _ in'))
        (put_orderly e (take i cs) (drop (suc i) cs) (unpacked (get_or cs i d)) low high up vp was (turned (get_or cs i d) e.right) key most on_is (turned_on (get_or cs i d) e key unset e (inl refl))
        (All-take (λ x. 0 < length (unpacked x)) i cs o.filled) (All-drop (λ x. 0 < length (unpacked x)) (suc i) cs o.filled) all good (subst (λ l. length l < most) parts room))

  module _ (is_set : has (get_or cs i d).rights (bit e.right) ≡ true) where
    mine : In e (unpacked (get_or cs i d))
    mine = holds_set (get_or cs i d) e key is_set

    down_to : (f : Entry) → In f (unpacked (turned (get_or cs i d) e.right)) → In f (unpacked (get_or cs i d))
    down_to f h = ⊎_elim (λ p. absurd (turned_off (get_or cs i d) e key is_set (subst (λ g. In g (unpacked (turned (get_or cs i d) e.right))) p h))) (λ k. k) (in_turned (get_or cs i d) e key f h)

    few : length (held (take i cs) ++ (unpacked (get_or cs i d) ++ held (drop (suc i) cs))) ≤ most
    few = subst (λ l. length l ≤ most) parts o.few

    off_is : held (take i cs ++ turned (get_or cs i d) e.right ∷ drop (suc i) cs) ≡ without_entry e (held (take i cs) ++ (unpacked (get_or cs i d) ++ held (drop (suc i) cs)))
    off_is =
        take_is e (take i cs) (drop (suc i) cs) (unpacked (get_or cs i d)) low high up vp was (turned (get_or cs i d) e.right) key
        (turned_off (get_or cs i d) e key is_set) down_to (turned_rest (get_or cs i d) e key)

    pub take_set' : held (set cs i (turned (get_or cs i d) e.right)) ≡ without_entry e (held cs)
    take_set' = ap held (set_split cs i _ in') ∙ off_is ∙ ap (without_entry e) (sym parts)

    -- a cell with more than e holds something else
    still_some : (length (unpacked (get_or cs i d)) ≡ 1 → ⊥) → 0 < length (unpacked (turned (get_or cs i d) e.right))
    still_some more =
        let is = take_middle e [] [] (unpacked (get_or cs i d)) (unpacked (turned (get_or cs i d) e.right)) (subst RisingEntries (sym (append-nil _)) (unpacked_rises (get_or cs i d))) (subst RisingEntries (sym (append-nil _)) (unpacked_rises (turned (get_or cs i d) e.right))) (λ h. h) (λ h. h) (turned_off (get_or cs i d) e key is_set) down_to (turned_rest (get_or cs i d) e key) in
        let n = ap length (sym (append-nil (unpacked (turned (get_or cs i d) e.right))) ∙ is ∙ ap (without_entry e) (append-nil (unpacked (get_or cs i d)))) in
        let m = length_without e (unpacked (get_or cs i d)) mine in
        let k = some_in e (unpacked (get_or cs i d)) mine in
        omega arith

    pub take_set_orderly : (length (unpacked (get_or cs i d)) ≡ 1 → ⊥) → Orderly (set cs i (turned (get_or cs i d) e.right)) most
    take_set_orderly more =
        subst (λ l. Orderly l most) (sym (set_split cs i _ in'))
        (take_orderly e (take i cs) (drop (suc i) cs) (unpacked (get_or cs i d)) low high up vp was (turned (get_or cs i d) e.right) key most off_is (still_some more)
        (All-take (λ x. 0 < length (unpacked x)) i cs o.filled) (All-drop (λ x. 0 < length (unpacked x)) (suc i) cs o.filled) all mine few)

    module _ (one : length (unpacked (get_or cs i d)) ≡ 1) where
      pub take_cell : held (remove cs i) ≡ without_entry e (held cs)
      take_cell =
          drop_is e (take i cs) (drop (suc i) cs) (unpacked (get_or cs i d)) low high up vp was (λ f h. only_one e f (unpacked (get_or cs i d)) one mine h) ∙ ap (without_entry e) (sym parts)

      pub take_cell_orderly : Orderly (remove cs i) most
      take_cell_orderly =
          drop_orderly e (take i cs) (drop (suc i) cs) (unpacked (get_or cs i d)) low high up vp was most (take_cell ∙ ap (without_entry e) parts)
          (All-take (λ x. 0 < length (unpacked x)) i cs o.filled) (All-drop (λ x. 0 < length (unpacked x)) (suc i) cs o.filled) all mine few

-- no cell has the key of e, and one belongs at place i
module _ (e : Entry) (cs : List Cell) (most i : ℕ) (o : Orderly cs most) (found : CellFinding e cs (Err i)) where
  split : held cs ≡ held (take i cs) ++ held (drop i cs)
  split = held_parts i cs

  rises : RisingEntries (held (take i cs) ++ ([] ++ held (drop i cs)))
  rises = subst RisingEntries split (held_rises cs o.climbing)

  front : Rising KeyBefore (take i cs)
  front = rising_front i cs o.climbing

  back : Rising KeyBefore (drop i cs)
  back = rising_back i cs o.climbing

  pub stands_nowhere : In e (held cs) → ⊥
  stands_nowhere h = only_middle e (take i cs) (drop i cs) [] found.1 found.2 front back rises (subst (In e) split h)

  module _ (good : Proper e) (room : length (held cs) < most) where
    alone : (f : Entry) → In f (unpacked (turned (key_cell e) e.right)) → (f ≡ e) ⊎ In f []
    alone f h = ⊎_elim inl (λ k. absurd (empty_map f (key_cell e) refl k)) (in_turned (key_cell e) e refl f h)

    with_it : (f : Entry) → (f ≡ e) ⊎ In f [] → In f (unpacked (turned (key_cell e) e.right))
    with_it f h = turned_on (key_cell e) e refl (none_set (bit e.right)) f (⊎_elim inl absurd h)

    new_is : held (take i cs ++ turned (key_cell e) e.right ∷ drop i cs) ≡ with_entry e (held (take i cs) ++ ([] ++ held (drop i cs)))
    new_is = put_is e (take i cs) (drop i cs) [] found.1 found.2 front back rises (turned (key_cell e) e.right) refl (λ h. h) alone with_it

    pub put_cell : held (insert cs i (turned (key_cell e) e.right)) ≡ with_entry e (held cs)
    put_cell = new_is ∙ ap (with_entry e) (sym split)

    pub put_cell_orderly : Orderly (insert cs i (turned (key_cell e) e.right)) most
    put_cell_orderly =
        put_orderly e (take i cs) (drop i cs) [] found.1 found.2 front back rises (turned (key_cell e) e.right) refl most new_is (with_it e (inl refl))
        (All-take (λ x. 0 < length (unpacked x)) i cs o.filled) (All-drop (λ x. 0 < length (unpacked x)) i cs o.filled) (subst (AllByRecursion Proper) split o.proper) good (subst (λ l. length l < most) split room)
