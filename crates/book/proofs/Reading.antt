-- The entry at a place: in a cell by its bits, and in a list of cells by their running counts.
use Rattle.std.proofs.Common.{◌≡◌, ℕ, zero, suc, ◌+◌, ◌-◌, ◌%◌, ◌^◌, ◌<◌, ◌≤◌, Bool, true, false, cond, eqb, leb, ◌⊎◌, List, [], ◌∷◌, ◌++◌, map, length, get_or, take, drop, Some, None, Option, Bor, sym, refl, ap, ◌∙◌, subst, inl, inr, ⊎_elim, zero-add, add-one, arith}
use native.Mathlib.Nat.{div-eq_of_lt}
use Rattle.std.proofs.Math.Nat.{pow-le-pow_right}
use Rattle.std.specs.List.{slice_get, filter, enumerate_from, range_with_len}
use Rattle.std.specs.Slice.{IsItemAt}
use Rattle.std.specs.Option.{option_map, option_copied}
use Rattle.std.proofs.lemmas.Option.{none-some, slice_get-map, slice_get-get_or, slice_get_within, slice_get_past, get_or_from_slice_get}
use Rattle.std.proofs.lemmas.List.{get_or_default, length-take-le, get_or-take, take_more, take_all, drop_all, append-nil, length-append}
use Rattle.std.specs.List.Sorted.{IsNonDecreasingBy, IsPartitionPoint}
use Rattle.std.proofs.lemmas.Bool.Decides.{nat_tests}
use Rattle.std.proofs.lemmas.Bool.{cases_lt, and_parts, eqb-true, leb-true}
use Rattle.rights.specs.declared.entries.Entry.{Entry}
use Rattle.rights.specs.declared.vocabulary.Right.{Right}
use Rattle.rights.specs.declared.vocabulary.Right.TheVariants.{Access}
use Rattle.rights.specs.declared.vocabulary.Privilege.TheVariants.{Select}
use Rattle.rights.specs.declared.vocabulary.Sign.TheVariants.{Plus}
use Rattle.rights.specs.declared.vocabulary.Strength.{Strength}
use Rattle.rights.specs.Bits.{bit, rows}
use Rattle.book.specs.declared.keyed.Cell.{Cell}
use Rattle.book.specs.Cells.{has, entry_of, picked, unpacked, held, numbered}
use Rattle.book.proofs.Counts.{no_cell, numbered_at, length_held_push}
use Rattle.book.proofs.Table.{numbered as rows_from}
use Rattle.book.proofs.Turns.{held_whole}

-- ---- in a cell

pub nth_next : {X : Type 0} (x : X) (xs : List X) (n : ℕ) → 0 < n → slice_get (x ∷ xs) n ≡ slice_get xs (n - 1)
nth_next x xs zero h = absurd (omega arith)
nth_next x xs (suc n) h = let e : n ≡ suc n - 1 = omega arith in ap (slice_get xs) e

-- the entries of a map are those of the rows that pass
pub picked_rows : (entry : Right → Entry) (m : ℕ) (rs : List Right) (i : ℕ) → rows_from i rs ≡ true → map (λ p. entry p.1) (filter (λ p. has m p.0) (enumerate_from i rs)) ≡ picked entry m rs
unfolding picked
picked_rows entry m [] i test = refl
picked_rows entry m (r ∷ rs) i test =
    let t = and_parts (eqb (bit r) i) _ test in
    go (has m i) (picked_rows entry m rs (i + 1) (subst (λ j. rows_from j rs ≡ true) (sym (add-one i)) t.1))
    ∙ ap (λ j. cond (has m j) (entry r ∷ picked entry m rs) (picked entry m rs)) (sym (eqb-true _ _ t.0))
  where
    go : (b : Bool) → map (λ p. entry p.1) (filter (λ p. has m p.0) (enumerate_from (i + 1) rs)) ≡ picked entry m rs →
        map (λ p. entry p.1) (cond b ((i, r) ∷ filter (λ p. has m p.0) (enumerate_from (i + 1) rs)) (filter (λ p. has m p.0) (enumerate_from (i + 1) rs))) ≡ cond b (entry r ∷ picked entry m rs) (picked entry m rs)
    go true e = ap (λ l. entry r ∷ l) e
    go false e = e

-- the same, told of their numbers alone
pub picked_numbers : (entry : Right → Entry) (m : ℕ) (right_at : ℕ → Right) (rs : List Right) (i : ℕ) → ((k : ℕ) (d : Right) → k < length rs → right_at (i + k) ≡ get_or rs k d) → rows_from i rs ≡ true →
    map (λ k. entry (right_at k)) (filter (has m) (range_with_len i (length rs))) ≡ picked entry m rs
unfolding picked
picked_numbers entry m right_at [] i is test = refl
picked_numbers entry m right_at (r ∷ rs) i is test =
    let t = and_parts (eqb (bit r) i) _ test in
    let here : i ≡ i + 0 = omega arith in
    go (has m i) (ap right_at here ∙ is 0 r (omega arith))
    (picked_numbers entry m right_at rs (i + 1) (λ k d l. let up : i + 1 + k ≡ i + suc k = omega arith in ap right_at up ∙ is (suc k) d (omega arith)) (subst (λ j. rows_from j rs ≡ true) (sym (add-one i)) t.1))
    ∙ ap (λ j. cond (has m j) (entry r ∷ picked entry m rs) (picked entry m rs)) (sym (eqb-true _ _ t.0))
  where
    go : (b : Bool) → right_at i ≡ r → map (λ k. entry (right_at k)) (filter (has m) (range_with_len (i + 1) (length rs))) ≡ picked entry m rs →
        map (λ k. entry (right_at k)) (cond b (i ∷ filter (has m) (range_with_len (i + 1) (length rs))) (filter (has m) (range_with_len (i + 1) (length rs)))) ≡ cond b (entry r ∷ picked entry m rs) (picked entry m rs)
    go true is_r e = ap (λ l. entry (right_at i) ∷ l) e ∙ ap (λ q. entry q ∷ picked entry m rs) is_r
    go false is_r e = e

passed_below : (test : ℕ → Bool) (i n j k : ℕ) → slice_get (filter test (range_with_len i n)) j ≡ Some k → k < i + n
passed_below test i zero j k is = absurd (none-some k is)
passed_below test i (suc n) j k is = go (λ j e. passed_below test (i + 1) n j k e) (test i) j is
  where
    go : ((j : ℕ) → slice_get (filter test (range_with_len (i + 1) n)) j ≡ Some k → k < i + 1 + n) → (b : Bool) (j : ℕ) → slice_get (cond b (i ∷ filter test (range_with_len (i + 1) n)) (filter test (range_with_len (i + 1) n))) j ≡ Some k → k < i + suc n
    go later true zero e = let same : i ≡ k = cc in omega arith
    go later true (suc j) e = let h = later j e in omega arith
    go later false j e = let h = later j e in omega arith

-- what the number at place n of those that are set tells of the entry there
module _ (c : Cell) (n : ℕ) (r : Option ℕ) (is : option_map (λ k. k) r ≡ slice_get (filter (has c.rights) (range_with_len 0 32)) n) where
  number_below : (k : ℕ) → r ≡ Some k → k < 32
  number_below k e = passed_below (has c.rights) 0 32 n k (sym is ∙ ap (option_map (λ k. k)) e)

  at_number : (d : Right) → option_map (λ k. entry_of c (get_or rows k d)) r ≡ slice_get (unpacked c) n
  at_number d =
      of_option r
      ∙ ap (option_map (λ k. entry_of c (get_or rows k d))) is
      ∙ sym (slice_get-map (λ k. entry_of c (get_or rows k d)) (filter (has c.rights) (range_with_len 0 32)) n)
      ∙ ap (λ l. slice_get l n) (picked_numbers (entry_of c) c.rights (λ k. get_or rows k d) rows 0 (λ k e l. ap (λ j. get_or rows j d) (zero-add k) ∙ get_or_default rows k d e l) refl)
    where
      of_option : (o : Option ℕ) → option_map (λ k. entry_of c (get_or rows k d)) o ≡ option_map (λ k. entry_of c (get_or rows k d)) (option_map (λ k. k) o)
      of_option None = refl
      of_option (Some k) = refl

  first : Right
  first = Access Select Plus Strength.Weak

  pub none_at_number : r ≡ None → None ≡ slice_get (unpacked c) n
  none_at_number e = sym (ap (option_map (λ k. entry_of c (get_or rows k first))) e) ∙ at_number first

  pub some_at_number : (k : ℕ) → r ≡ Some k → option_map (entry_of c) (slice_get rows k) ≡ slice_get (unpacked c) n
  some_at_number k e =
      ap (option_map (entry_of c)) (slice_get-get_or rows k first (number_below k e))
      ∙ sym (ap (option_map (λ k. entry_of c (get_or rows k first))) e) ∙ at_number first

-- what is lent of a place is what stands there
pub item_read : {X : Type 0} (xs : List X) (i : ℕ) (r : Option (Bor X)) → IsItemAt xs i r → option_copied r ≡ slice_get xs i
item_read xs i None h = sym (slice_get_past xs i h.3)
item_read xs i (Some x) h = ap Some h.1 ∙ sym (slice_get-get_or xs i x.now h.3.0)

-- no bit past the last row is set
pub none_past : (m k : ℕ) → m < 2 ^ 32 → 32 ≤ k → false ≡ has m k
unfolding has
none_past m k small past =
    let h : 2 ^ 32 ≤ 2 ^ k = pow-le-pow_right {n = 2} (omega arith) {i = 32} {j = k} past in
    ap (λ n. eqb (n % 2) 1) (sym (div-eq_of_lt (omega arith)))

-- ---- in a list of cells

get-append_left : {X : Type 0} (xs ys : List X) (k : ℕ) → k < length xs → slice_get (xs ++ ys) k ≡ slice_get xs k
get-append_left [] ys k h = absurd (omega arith)
get-append_left (x ∷ xs) ys zero h = refl
get-append_left (x ∷ xs) ys (suc k) h = get-append_left xs ys k (omega arith)

get-append_right : {X : Type 0} (xs ys : List X) (k : ℕ) → length xs ≤ k → slice_get (xs ++ ys) k ≡ slice_get ys (k - length xs)
get-append_right [] ys k h = ap (slice_get ys) (omega arith)
get-append_right (x ∷ xs) ys zero h = absurd (omega arith)
get-append_right (x ∷ xs) ys (suc k) h = get-append_right xs ys k (omega arith) ∙ ap (slice_get ys) (omega arith)

held_grows : (i j : ℕ) (cs : List Cell) → i ≤ j → length (held (take i cs)) ≤ length (held (take j cs))
held_grows zero j cs le = omega arith
held_grows (suc i) zero cs le = absurd (omega arith)
held_grows (suc i) (suc j) [] le = omega arith
held_grows (suc i) (suc j) (c ∷ cs) le =
    let h = held_grows i j cs (omega arith) in
    let a = length-append (unpacked c) (held (take i cs)) in
    let b = length-append (unpacked c) (held (take j cs)) in
    omega arith

module _ (cs : List Cell) (sums : numbered 0 cs ≡ true) (k : ℕ) where
  earlier : (i : ℕ) (d : Cell) → i < length cs → (get_or cs i d).earlier ≡ length (held (take i cs))
  earlier i d in' = numbered_at 0 cs i d sums in' ∙ zero-add _

  -- the counts rise
  pub counts_rise : IsNonDecreasingBy (λ c. c.earlier) cs
  counts_rise i j d le in' =
      let a = earlier i d (omega arith) in
      let b = earlier j d in' in
      let g = held_grows i j cs le in
      omega arith

  -- r cells start at place k or before
  module _ (r : ℕ) (within : r ≤ length cs) (p : IsPartitionPoint (λ c. leb c.earlier k ≡ true) (λ c. leb c.earlier k ≡ false) cs r) (d : Cell) where
    -- where none does, no entry stands
    pub none_there : r ≡ 0 → slice_get (held cs) k ≡ None
    none_there none =
        ⊎_elim
        (λ some. let a = earlier 0 d some in let t = p.1 0 d (omega arith) some in absurd (grind (arith, nat_tests)))
        (λ empty. ap (λ l. slice_get (held l) k) (sym (take_all 0 cs empty))) (cases_lt 0 (length cs))

    -- else the last of them has the entry, if any stands there
    module _ (some : 0 < r) where
      pub starts : (get_or cs (r - 1) d).earlier ≤ k
      starts = let t = p.0 (r - 1) d (omega arith) (omega arith) in leb-true _ _ t

      last : Cell
      last = get_or cs (r - 1) d

      before : length (held (take (r - 1) cs)) ≡ (get_or cs (r - 1) d).earlier
      before = sym (earlier (r - 1) d (omega arith))

      up : r - 1 + 1 ≡ r
      up = omega arith

      -- it is the last cell, or more entries than k stand before the next
      ends : (drop (suc (r - 1)) cs ≡ []) ⊎ (k - (get_or cs (r - 1) d).earlier < length (unpacked (get_or cs (r - 1) d)))
      ends = ⊎_elim
          (λ inside. inr (
          let a = earlier r d inside in
          let t = p.1 r d (omega arith) inside in
          let n = ap (λ l. length (held l)) (ap (λ n. take n cs) (sym up) ∙ take_more cs (r - 1) d (omega arith)) ∙ length_held_push (take (r - 1) cs) (get_or cs (r - 1) d) in
          let b = before in
          let s = starts in
          grind (arith, nat_tests)))
          (λ past. inl (drop_all (suc (r - 1)) cs (omega arith))) (cases_lt r (length cs))

      pub stands_there : slice_get (held cs) k ≡ slice_get (unpacked (get_or cs (r - 1) d)) (k - (get_or cs (r - 1) d).earlier)
      stands_there =
          ap (λ l. slice_get l k) (held_whole cs (r - 1) d (omega arith))
          ∙ get-append_right (held (take (r - 1) cs)) _ k (omega (arith, before, starts)) ∙ ap (λ n. slice_get (unpacked (get_or cs (r - 1) d) ++ held (drop (suc (r - 1)) cs)) (k - n)) before
          ∙ ⊎_elim
          (λ none. ap (λ l. slice_get (unpacked (get_or cs (r - 1) d) ++ held l) (k - (get_or cs (r - 1) d).earlier)) none ∙ ap (λ l. slice_get l (k - (get_or cs (r - 1) d).earlier)) (append-nil (unpacked (get_or cs (r - 1) d))))
          (λ inside. get-append_left (unpacked (get_or cs (r - 1) d)) (held (drop (suc (r - 1)) cs)) _ inside) ends

  -- the same, told of the last of those r cells
  module _ (r : ℕ) (within : r ≤ length cs) (p : IsPartitionPoint (λ c. leb c.earlier k ≡ true) (λ c. leb c.earlier k ≡ false) cs r) where
    size : length (take r cs) ≡ r
    size = length-take-le r cs within

    pub none_found : slice_get (take r cs) (length (take r cs) - 1) ≡ None → slice_get (held cs) k ≡ None
    none_found is =
        ⊎_elim
        (λ some. let n = size in absurd (none-some (get_or (take r cs) (length (take r cs) - 1) no_cell) (sym is ∙ slice_get-get_or (take r cs) (length (take r cs) - 1) no_cell (omega arith))))
        (λ none. none_there r within p no_cell (omega arith)) (cases_lt 0 r)

    module _ (c : Cell) (is : slice_get (take r cs) (length (take r cs) - 1) ≡ Some c) where
      some_cell : 0 < r
      some_cell = let n = size in let h = slice_get_within (take r cs) (length (take r cs) - 1) c is in omega arith

      there : get_or cs (r - 1) c ≡ c
      there =
          let n = size in
          let s = some_cell in
          sym (get_or-take r cs (r - 1) c (omega arith)) ∙ ap (λ j. get_or (take r cs) (j - 1) c) (sym n) ∙ get_or_from_slice_get (take r cs) (length (take r cs) - 1) c c is

      pub cell_starts : c.earlier ≤ k
      cell_starts = subst (λ x. x.earlier ≤ k) there (starts r within p c some_cell)

      pub cell_has : slice_get (unpacked c) (k - c.earlier) ≡ slice_get (held cs) k
      cell_has = sym (subst (λ x. slice_get (held cs) k ≡ slice_get (unpacked x) (k - x.earlier)) there (stands_there r within p c some_cell))
