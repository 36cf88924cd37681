-- Running counts of cells: what they tell, and what counting anew leaves; what a cell book keeps when its cells change.
use Rattle.std.proofs.Common.{◌≡◌, ℕ, zero, suc, ◌+◌, ◌-◌, ◌<◌, ◌≤◌, true, ◌&&◌, eqb, ltb, List, [], ◌∷◌, ◌++◌, length, Some, None, get_or, take, drop, set, sym, refl, ap, ◌∙◌, subst, add-zero, zero-add, arith, get_or-drop, append_assoc}
use Rattle.std.proofs.Math.Seq.{set-append_seam}
use Rattle.std.specs.List.{slice_get, AllByRecursion}
use Rattle.std.proofs.lemmas.Option.{slice_get_within, slice_get-get_or, get_or_from_slice_get, none-some}
use Rattle.std.proofs.lemmas.List.{append-nil, length-append, length-set, length-take-le, length-drop, get_or-append_right, take_all, take_more, drop_more, take-append-drop}
use Rattle.std.proofs.lemmas.Bool.{eqb-true, eq-eqb, ltb-true, lt-ltb, and_parts, and_from}
use Rattle.rights.specs.Entries.{Proper, sound}
use Rattle.rights.specs.Lists.{Rising}
use Rattle.rights.proofs.Order.{sound_from, sound_proper}
use Rattle.book.specs.declared.keyed.Cell.{Cell}
use Rattle.book.specs.declared.packed.Cells.{Cells}
use Rattle.rising.specs.declared.fronts.Front.{Front}
use Rattle.book.specs.Cells.{unpacked, held, KeyBefore, climbs, numbered, recounted, counted_on}
use Rattle.book.specs.Packing.{cells}
use Rattle.rising.specs.Fronts.{stored, whole, SameRest, Refilled}
use Rattle.book.proofs.Heaps.{held_append, held_rises, decides_climbs}
use Rattle.rising.proofs.Filled.{refilled_again}

-- ---- running counts

pub numbered_take : (n : ℕ) (cs : List Cell) (k : ℕ) → numbered n cs ≡ true → numbered n (take k cs) ≡ true
unfolding numbered
numbered_take n cs zero test = refl
numbered_take n [] (suc k) test = refl
numbered_take n (c ∷ cs) (suc k) test =
    let h = and_parts (eqb c.earlier n && ltb 0 (length (unpacked c))) _ test in
    and_from _ _ h.0 (numbered_take (n + length (unpacked c)) cs k h.1)

pub numbered_at : (n : ℕ) (cs : List Cell) (k : ℕ) (d : Cell) → numbered n cs ≡ true → k < length cs → (get_or cs k d).earlier ≡ n + length (held (take k cs))
unfolding numbered
numbered_at n [] k d test h = absurd (omega arith)
numbered_at n (c ∷ cs) zero d test h =
    let p = and_parts (eqb c.earlier n && ltb 0 (length (unpacked c))) _ test in
    eqb-true _ _ (and_parts (eqb c.earlier n) _ p.0).0 ∙ omega arith
numbered_at n (c ∷ cs) (suc k) d test h =
    let p = and_parts (eqb c.earlier n && ltb 0 (length (unpacked c))) _ test in
    let e = numbered_at (n + length (unpacked c)) cs k d p.1 (omega arith) in
    let l = length-append (unpacked c) (held (take k cs)) in
    omega arith

pub numbered_filled : (n : ℕ) (cs : List Cell) → numbered n cs ≡ true → AllByRecursion (λ c. 0 < length (unpacked c)) cs
unfolding numbered
numbered_filled n [] test = tt
numbered_filled n (c ∷ cs) test =
    let p = and_parts (eqb c.earlier n && ltb 0 (length (unpacked c))) _ test in
    (ltb-true 0 _ (and_parts (eqb c.earlier n) _ p.0).1, numbered_filled (n + length (unpacked c)) cs p.1)

-- no cell is empty, so there are no more cells than entries
pub few_cells : (cs : List Cell) → AllByRecursion (λ c. 0 < length (unpacked c)) cs → length cs ≤ length (held cs)
few_cells [] all = omega arith
few_cells (c ∷ cs) all = let h = few_cells cs all.1 in let k = all.0 in let l = length-append (unpacked c) (held cs) in omega arith

pub length_held_push : (cs : List Cell) (c : Cell) → length (held (cs ++ c ∷ [])) ≡ length (held cs) + length (unpacked c)
length_held_push cs c = ap length (held_append cs (c ∷ []) ∙ ap (λ l. held cs ++ l) (append-nil (unpacked c))) ∙ length-append (held cs) (unpacked c)

pub held_parts : (k : ℕ) (cs : List Cell) → held cs ≡ held (take k cs) ++ held (drop k cs)
held_parts k cs = ap held (sym (take-append-drop k cs)) ∙ held_append (take k cs) (drop k cs)

pub held_front : (k : ℕ) (cs : List Cell) → length (held (take k cs)) ≤ length (held cs)
held_front k cs = omega (arith, ap length (held_parts k cs), length-append (held (take k cs)) (held (drop k cs)))

-- ---- counting anew

-- cells with their running counts are as they would be counted
pub counted_same : (n : ℕ) (cs : List Cell) → numbered n cs ≡ true → counted_on n cs ≡ cs
unfolding numbered counted_on
counted_same n [] test = refl
counted_same n (c ∷ cs) test =
    let p = and_parts (eqb c.earlier n && ltb 0 (length (unpacked c))) _ test in
    let e = eqb-true _ _ (and_parts (eqb c.earlier n) _ p.0).0 in
    ap (λ m. recounted c m ∷ counted_on (n + length (unpacked c)) cs) (sym e) ∙ ap (λ l. c ∷ l) (counted_same (n + length (unpacked c)) cs p.1)

-- one cell more
pub counted_push : (n : ℕ) (cs : List Cell) (c : Cell) → counted_on n (cs ++ c ∷ []) ≡ counted_on n cs ++ recounted c (n + length (held cs)) ∷ []
unfolding counted_on
counted_push n [] c = ap (λ m. recounted c m ∷ []) (sym (add-zero n))
counted_push n (d ∷ cs) c =
    let e : n + length (unpacked d) + length (held cs) ≡ n + length (held (d ∷ cs)) = omega (arith, length-append (unpacked d) (held cs)) in
    ap (λ l. recounted d n ∷ l) (counted_push (n + length (unpacked d)) cs c ∙ ap (λ m. counted_on (n + length (unpacked d)) cs ++ recounted c m ∷ []) e)

pub held_counted : (n : ℕ) (cs : List Cell) → held (counted_on n cs) ≡ held cs
unfolding counted_on
held_counted n [] = refl
held_counted n (c ∷ cs) = ap (λ l. unpacked c ++ l) (held_counted (n + length (unpacked c)) cs)

pub length_counted : (n : ℕ) (cs : List Cell) → length (counted_on n cs) ≡ length cs
unfolding counted_on
length_counted n [] = refl
length_counted n (c ∷ cs) = ap suc (length_counted (n + length (unpacked c)) cs)

all_counted : (P : Cell → Type 0) → ((c : Cell) (m : ℕ) → P c → P (recounted c m)) → (n : ℕ) (cs : List Cell) → AllByRecursion P cs → AllByRecursion P (counted_on n cs)
unfolding counted_on
all_counted P to n [] all = tt
all_counted P to n (c ∷ cs) all = (to c n all.0, all_counted P to (n + length (unpacked c)) cs all.1)

rising_counted : (n : ℕ) (cs : List Cell) → Rising KeyBefore cs → Rising KeyBefore (counted_on n cs)
unfolding counted_on KeyBefore
rising_counted n [] up = tt
rising_counted n (c ∷ cs) up =
    (all_counted (KeyBefore c) (λ _ _ h. h) (n + length (unpacked c)) cs up.0, rising_counted (n + length (unpacked c)) cs up.1)

numbered_counted : (n : ℕ) (cs : List Cell) → AllByRecursion (λ c. 0 < length (unpacked c)) cs → numbered n (counted_on n cs) ≡ true
unfolding numbered counted_on
numbered_counted n [] all = refl
numbered_counted n (c ∷ cs) all = and_from _ _ (and_from _ _ (eq-eqb n n refl) (lt-ltb 0 _ all.0)) (numbered_counted (n + length (unpacked c)) cs all.1)

-- nothing changed
unchanged : (f : Front Cell) (cs : List Cell) → stored f ≡ cs → Refilled f cs f
unchanged f cs is = record { holds = is; long = refl; rest = refl }

-- the first k cells have been counted anew, and hold so many entries
pub record Counting (old now : Front Cell) (k count : ℕ) : Type 0 where
  pub filled : Refilled old (counted_on 0 (take k (stored old)) ++ drop k (stored old)) now
  pub total : count ≡ length (held (take k (stored old)))

pub counting_from : (old : Front Cell) (i count : ℕ) → numbered 0 (take i (stored old)) ≡ true → count ≡ length (held (take i (stored old))) → Counting old old i count
counting_from old i count test is = record {
  filled = unchanged old _ (sym (ap (λ l. l ++ drop i (stored old)) (counted_same 0 (take i (stored old)) test) ∙ take-append-drop i (stored old)));
  total = is;
}

module _ (old now : Front Cell) (k count : ℕ) (d : Cell) (g : Counting old now k count) (in' : k < length (stored old)) where
  -- the cells counted anew so far
  abbrev front : List Cell
  front = counted_on 0 (take k (stored old))

  front_long : length front ≡ k
  front_long = length_counted 0 (take k (stored old)) ∙ length-take-le k (stored old) (omega arith)

  rest_is : drop k (stored old) ≡ get_or (stored old) k d ∷ drop (k + 1) (stored old)
  rest_is = drop_more (stored old) k d in'

  pub long_now : length (stored now) ≡ length (stored old)
  long_now =
      ap length g.filled.holds ∙ length-append front (drop k (stored old)) ∙ (let f = front_long in let r = length-drop k (stored old) in omega arith)

  next_cell : get_or (stored now) k d ≡ get_or (stored old) k d
  next_cell =
      ap (λ l. get_or l k d) g.filled.holds ∙ get_or-append_right front (drop k (stored old)) k k d front_long (omega arith)
      ∙ get_or-drop k (stored old) (k - k) d ∙ ap (λ j. get_or (stored old) j d) (omega arith)

  next_total : count + length (unpacked (get_or (stored now) k d)) ≡ length (held (take (k + 1) (stored old)))
  next_total =
      ap (λ x. count + length (unpacked x)) next_cell ∙ ap (λ n. n + length (unpacked (get_or (stored old) k d))) g.total
      ∙ sym (length_held_push (take k (stored old)) (get_or (stored old) k d)) ∙ ap (λ l. length (held l)) (sym (take_more (stored old) k d in'))

  -- so far no more than all cells hold
  pub counting_few : count + length (unpacked (get_or (stored now) k d)) ≤ length (held (stored old))
  counting_few = let more = held_front (k + 1) (stored old) in omega (arith, next_total)

  pub counting_more : (after : Front Cell) → Refilled now (set (stored now) k (recounted (get_or (stored now) k d) count)) after → Counting old after (k + 1) (count + length (unpacked (get_or (stored now) k d)))
  counting_more after to =
      let here : recounted (get_or (stored now) k d) count ≡ recounted (get_or (stored old) k d) (0 + length (held (take k (stored old)))) =
      ap (λ x. recounted x count) next_cell ∙ ap (recounted (get_or (stored old) k d)) (g.total ∙ sym (zero-add _)) in
      let written : set (stored now) k (recounted (get_or (stored now) k d) count) ≡ counted_on 0 (take (k + 1) (stored old)) ++ drop (k + 1) (stored old) =
      ap (λ l. set l k (recounted (get_or (stored now) k d) count)) (g.filled.holds ∙ ap (λ l. front ++ l) rest_is)
      ∙ ap (λ n. set (front ++ get_or (stored old) k d ∷ drop (k + 1) (stored old)) n (recounted (get_or (stored now) k d) count)) (sym front_long)
      ∙ set-append_seam front (get_or (stored old) k d) (drop (k + 1) (stored old)) (recounted (get_or (stored now) k d) count)
      ∙ ap (λ c. front ++ c ∷ drop (k + 1) (stored old)) here
      ∙ sym (append_assoc front (recounted (get_or (stored old) k d) (0 + length (held (take k (stored old)))) ∷ []) (drop (k + 1) (stored old)))
      ∙ ap (λ l. l ++ drop (k + 1) (stored old)) (sym (counted_push 0 (take k (stored old)) (get_or (stored old) k d)) ∙ ap (counted_on 0) (sym (take_more (stored old) k d in'))) in
      record {
        filled = subst (λ l. Refilled old l after) written (refilled_again old now after _ _ g.filled to (length-set (stored now) k _ ∙ ap length g.filled.holds));
        total = next_total;
      }

-- the last cell tells how many entries all hold
pub last_tells : (cs : List Cell) (c : Cell) → numbered 0 cs ≡ true → slice_get cs (length cs - 1) ≡ Some c → c.earlier + length (unpacked c) ≡ length (held cs)
last_tells cs c test is =
    let in' = slice_get_within cs (length cs - 1) c is in
    let last = get_or_from_slice_get cs (length cs - 1) c c is in
    let at = numbered_at 0 cs (length cs - 1) c test in' in
    let up : length cs - 1 + 1 ≡ length cs = omega arith in
    let whole = ap (λ l. length (held l)) (sym (take_all (length cs) cs (omega arith)) ∙ ap (λ n. take n cs) (sym up) ∙ take_more cs (length cs - 1) c in') ∙ length_held_push (take (length cs - 1) cs) (get_or cs (length cs - 1) c) in
    omega (arith, ap (λ x. x.earlier) last, ap (λ x. length (unpacked x)) last)

-- where none is last, nothing is held
pub none_last : (cs : List Cell) → slice_get cs (length cs - 1) ≡ None → 0 ≡ length (held cs)
none_last [] is = refl
none_last (c ∷ cs) is = absurd (none-some (get_or (c ∷ cs) (length cs) c) (sym is ∙ ap (slice_get (c ∷ cs)) (omega arith) ∙ slice_get-get_or (c ∷ cs) (length cs) c (omega arith)))

-- ---- orderly lists

-- a list of cells that a book with that ceiling can have
pub record Orderly (cs : List Cell) (most : ℕ) : Type 0 where
  pub climbing : Rising KeyBefore cs
  pub proper : AllByRecursion Proper (held cs)
  pub filled : AllByRecursion (λ c. 0 < length (unpacked c)) cs
  pub few : length (held cs) ≤ most

pub orderly_from : (cs : List Cell) (most : ℕ) → sound (held cs) ≡ true → climbs cs ≡ true → numbered 0 cs ≡ true → length (held cs) ≤ most → Orderly cs most
orderly_from cs most rises keys sums few = record {
  climbing = (decides_climbs cs).0 keys;
  proper = sound_proper (held cs) rises;
  filled = numbered_filled 0 cs sums;
  few = few;
}

-- ---- what a cell book keeps

abbrev pub KeptCells : Front Cell → ℕ → Type 0
KeptCells f ceiling = record {
  counted : length (held (stored f)) ≤ ceiling;
  room : ceiling ≤ length (whole f);
  limited : ceiling ≤ 4096;
  rises : sound (held (stored f)) ≡ true;
  keys : climbs (stored f) ≡ true;
  sums : numbered 0 (stored f) ≡ true;
}

pub orderly_book : (b : Cells) → Orderly (cells b) b.ceiling
orderly_book b = orderly_from (cells b) b.ceiling b.rises b.keys b.sums b.counted

-- the cells change to cs, and are then counted anew
module _ (b : Cells) (f : Front Cell) (cs : List Cell) (to : Refilled b.front cs f) (o : Orderly cs b.ceiling) where
  pub few_held : length (held (stored f)) ≤ 4096
  few_held = omega (arith, ap (λ l. length (held l)) to.holds, o.few, b.limited)

  -- the cells before place i are the old ones, so their counts stand
  pub counts_stand : (i : ℕ) → take i cs ≡ take i (cells b) → numbered 0 (take i (stored f)) ≡ true
  counts_stand i same = ap (λ l. numbered 0 (take i l)) to.holds ∙ ap (numbered 0) same ∙ numbered_take 0 (cells b) i b.sums

  module _ (after : Front Cell) (on : Refilled f (counted_on 0 (stored f)) after) where
    both : Refilled b.front (counted_on 0 cs) after
    both = refilled_again b.front f after cs _ to (subst (λ l. Refilled f (counted_on 0 l) after) to.holds on) (length_counted 0 cs)

    pub changed_holds : held (stored after) ≡ held cs
    changed_holds = ap held both.holds ∙ held_counted 0 cs

    pub changed_rest : SameRest b.front after
    changed_rest = both.rest

    pub kept_cells : KeptCells after b.ceiling
    kept_cells =
        let holds = both.holds in
        record {
          counted = omega (arith, ap length changed_holds, o.few);
          room = omega (arith, both.long, b.room);
          limited = b.limited;
          rises = ap sound changed_holds ∙ sound_from (held cs) (held_rises cs o.climbing) o.proper;
          keys = ap climbs holds ∙ (decides_climbs (counted_on 0 cs)).1 (rising_counted 0 cs o.climbing);
          sums = ap (numbered 0) holds ∙ numbered_counted 0 cs o.filled;
        }

-- what is read past the end of a list
abbrev pub no_cell : Cell
no_cell = record { subject = 0; table = 0; grantor = 0; rights = 0; earlier = 0 }
