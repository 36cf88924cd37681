-- Bits of a map, and the entries that a cell holds.
use Rattle.std.proofs.Common.{◌≡◌, ℕ, suc, ◌+◌, ◌-◌, ◌/◌, ◌%◌, ◌^◌, ◌<◌, ◌≤◌, Bool, true, false, cond, not, eqb, ◌⊎◌, List, [], ◌∷◌, length, sym, refl, ap, ◌∙◌, subst, inl, inr, ⊎_elim, one-mul, div-one, add-one, arith}
use native.Mathlib.Nat.{div_self, div-eq_of_lt}
use lib.Bits.{bit_xor, shifted_even, xor_zero_r}
use lib.Count.{ones, ones_step}
use Rattle.std.specs.List.{AllByRecursion}
use Rattle.std.proofs.lemmas.Nat.{pow-add, pow_pos, pow_below, shl-shr, shr-shr, xor_shr, xor_mod, mod_below}
use Rattle.std.proofs.lemmas.Bool.{cases_eq, cases_order, eqb-true, eq-eqb, ne_eqb, and_parts, false≢true}
use Rattle.rights.specs.declared.entries.Entry.{Entry}
use Rattle.rights.specs.declared.vocabulary.Right.{Right}
use Rattle.rights.specs.Bits.{bit, rows}
use Rattle.rights.specs.Entries.{Before, RisingEntries}
use Rattle.rights.specs.Lists.{In}
use Rattle.rights.proofs.Bits.{row_of, bit_below, bit_injective}
use Rattle.book.specs.declared.keyed.Cell.{Cell}
use Rattle.book.specs.Cells.{has, entry_of, picked, unpacked, turned}
use Rattle.book.proofs.Members.{in_get_or, all_from_in}
use Rattle.book.proofs.Table.{numbered}

-- ---- bits

-- the bit j of 2 ^ k
power_bit : (k j : ℕ) → 2 ^ k / 2 ^ j % 2 ≡ cond (eqb j k) 1 0
power_bit k j = ⊎_elim same (⊎_elim less more) (cases_order j k)
  where
    same : j ≡ k → 2 ^ k / 2 ^ j % 2 ≡ cond (eqb j k) 1 0
    same e = rw (eq-eqb j k e) (ap (λ n. 2 ^ k / 2 ^ n % 2) e ∙ ap (λ n. n % 2) (div_self (pow_pos k)))

    less : j < k → 2 ^ k / 2 ^ j % 2 ≡ cond (eqb j k) 1 0
    less h =
        let up : k ≡ suc (k - j - 1) + j = omega arith in
        let half : 2 ^ k / 2 ^ j ≡ 2 ^ suc (k - j - 1) = ap (λ n. 2 ^ n / 2 ^ j) up ∙ ap (λ n. n / 2 ^ j) (pow-add 2 (suc (k - j - 1)) j) ∙ shl-shr (2 ^ suc (k - j - 1)) j in
        rw (ne_eqb j k (omega arith)) (ap (λ n. n % 2) (half ∙ sym (one-mul _)) ∙ shifted_even 1 (k - j - 1))

    more : k < j → 2 ^ k / 2 ^ j % 2 ≡ cond (eqb j k) 1 0
    more h = rw (ne_eqb j k (omega arith)) (ap (λ n. n % 2) (div-eq_of_lt (pow_below k j h)))

toggle_digit : (m k j : ℕ) → bit_xor m (2 ^ k) / 2 ^ j % 2 ≡ bit_xor (m / 2 ^ j % 2) (cond (eqb j k) 1 0)
toggle_digit m k j = ap (λ n. n % 2) (xor_shr m (2 ^ k) j) ∙ xor_mod (m / 2 ^ j) (2 ^ k / 2 ^ j) 1 ∙ ap (bit_xor (m / 2 ^ j % 2)) (power_bit k j)

-- a digit is 0 or 1
digit : (m k : ℕ) → (m / 2 ^ k % 2 ≡ 0) ⊎ (m / 2 ^ k % 2 ≡ 1)
digit m k = ⊎_elim inl (⊎_elim (λ h. absurd (omega arith)) (λ h. inr (omega (arith, mod_below (m / 2 ^ k) 2 (omega arith))))) (cases_order (m / 2 ^ k % 2) 0)

pub toggled_same : (m k : ℕ) → has (bit_xor m (2 ^ k)) k ≡ not (has m k)
unfolding has
toggled_same m k =
    ap (λ n. eqb n 1) (toggle_digit m k k ∙ ap (λ b. bit_xor (m / 2 ^ k % 2) (cond b 1 0)) (eq-eqb k k refl))
    ∙ ⊎_elim (λ z. rw z refl) (λ o. rw o refl) (digit m k)

pub toggled_other : (m k j : ℕ) → (j ≡ k → ⊥) → has (bit_xor m (2 ^ k)) j ≡ has m j
unfolding has
toggled_other m k j other =
    ap (λ n. eqb n 1) (toggle_digit m k j ∙ ap (λ b. bit_xor (m / 2 ^ j % 2) (cond b 1 0)) (ne_eqb j k other) ∙ xor_zero_r _)

-- no bit of 0 is set
pub none_set : (k : ℕ) → has 0 k ≡ false
unfolding has
none_set k = ap (λ n. eqb (n % 2) 1) (div-eq_of_lt (pow_pos k))

-- ---- the entries of a map

in_rows : (r : Right) → In r rows
in_rows r = subst (λ q. In q rows) (row_of r r) (in_get_or rows (bit r) r (bit_below r))

module _ (entry : Right → Entry) (m : ℕ) where
  in_picked : (f : Entry) (rs : List Right) → In f (picked entry m rs) → (r : Right) × (f ≡ entry r) × (has m (bit r) ≡ true) × In r rs
  unfolding picked
  in_picked f [] i = absurd i
  in_picked f (r ∷ rs) i = go (has m (bit r)) refl i (in_picked f rs)
    where
      later : (q : Right) × (f ≡ entry q) × (has m (bit q) ≡ true) × In q rs → (q : Right) × (f ≡ entry q) × (has m (bit q) ≡ true) × In q (r ∷ rs)
      later h = (h.0, h.1, h.2, inr h.3)

      go : (b : Bool) → has m (bit r) ≡ b → In f (cond b (entry r ∷ picked entry m rs) (picked entry m rs)) → (In f (picked entry m rs) → (q : Right) × (f ≡ entry q) × (has m (bit q) ≡ true) × In q rs) → (q : Right) × (f ≡ entry q) × (has m (bit q) ≡ true) × In q (r ∷ rs)
      go true set h more = ⊎_elim (λ e. (r, e, set, inl refl)) (λ j. later (more j)) h
      go false set h more = later (more h)

  picked_in : (r : Right) (rs : List Right) → In r rs → has m (bit r) ≡ true → In (entry r) (picked entry m rs)
  unfolding picked
  picked_in r [] i set = absurd i
  picked_in r (q ∷ rs) (inl e) set = subst (λ b. In (entry r) (cond b (entry q ∷ picked entry m rs) (picked entry m rs))) (sym (ap (λ x. has m (bit x)) (sym e) ∙ set)) (inl (ap entry e))
  picked_in r (q ∷ rs) (inr i) set = go (has m (bit q)) (picked_in r rs i set)
    where
      go : (b : Bool) → In (entry r) (picked entry m rs) → In (entry r) (cond b (entry q ∷ picked entry m rs) (picked entry m rs))
      go true h = inr h
      go false h = h

  -- as many entries as bits, from bit i on
  length_picked : (rs : List Right) (i n : ℕ) → numbered i rs ≡ true → i + length rs ≡ n → m < 2 ^ n → length (picked entry m rs) ≡ ones (m / 2 ^ i)
  unfolding picked has ones
  length_picked [] i n test end small = let e : i ≡ n = omega arith in sym (ap ones (ap (λ j. m / 2 ^ j) e ∙ div-eq_of_lt small))
  length_picked (r ∷ rs) i n test end small =
      let b : bit r ≡ i = eqb-true _ _ (and_parts (eqb (bit r) i) _ test).0 in
      let rest = length_picked rs (suc i) n (and_parts (eqb (bit r) i) _ test).1 (omega arith) small in
      let half : m / 2 ^ i / 2 ≡ m / 2 ^ suc i = shr-shr m i 1 ∙ ap (λ j. m / 2 ^ j) (add-one i) in
      let step = ones_step (m / 2 ^ i) ∙ ap (λ j. m / 2 ^ i % 2 + ones j) half in
      one_digit r (picked entry m rs) (has m (bit r)) refl ∙ ap (λ j. m / 2 ^ j % 2 + length (picked entry m rs)) b ∙ ap (λ j. m / 2 ^ i % 2 + j) rest ∙ sym step
    where
      one_digit : (q : Right) (l : List Entry) (b : Bool) → has m (bit q) ≡ b → length (cond b (entry q ∷ l) l) ≡ m / 2 ^ bit q % 2 + length l
      one_digit q l true set = let d = eqb-true (m / 2 ^ bit q % 2) 1 set in omega arith
      one_digit q l false set = ⊎_elim (λ z. omega arith) (λ o. absurd (false≢true (sym set ∙ eq-eqb _ 1 o))) (digit m (bit q))

-- ---- the entries of a cell

pub in_unpacked : (f : Entry) (c : Cell) → In f (unpacked c) → (f ≡ entry_of c f.right) × (has c.rights (bit f.right) ≡ true)
in_unpacked f c i =
    let h = in_picked (entry_of c) c.rights f rows i in
    let same : f.right ≡ h.0 = ap (λ x. x.right) h.1 in
    (h.1 ∙ ap (entry_of c) (sym same), ap (λ r. has c.rights (bit r)) same ∙ h.2)

pub unpacked_in : (c : Cell) (r : Right) → has c.rights (bit r) ≡ true → In (entry_of c r) (unpacked c)
unpacked_in c r set = picked_in (entry_of c) c.rights r rows (in_rows r) set

pub length_unpacked : (c : Cell) → c.rights < 2 ^ 32 → length (unpacked c) ≡ ones c.rights
length_unpacked c small = length_picked (entry_of c) c.rights rows 0 32 refl refl small ∙ ap ones (div-one c.rights)

-- entries of one key come in the order of their bit numbers
before_by_bit : (c : Cell) (r q : Right) → bit r < bit q → Before (entry_of c r) (entry_of c q)
unfolding Before
before_by_bit c r q h = inr (refl, inr (refl, inr (refl, h)))

at_least : (c : Cell) (m : ℕ) (rs : List Right) (i : ℕ) → numbered i rs ≡ true → (f : Entry) → In f (picked (entry_of c) m rs) → i ≤ bit f.right
unfolding picked
at_least c m [] i test f h = absurd h
at_least c m (r ∷ rs) i test f h =
    let b = eqb-true _ _ (and_parts (eqb (bit r) i) _ test).0 in
    go (has m (bit r)) h b (at_least c m rs (suc i) (and_parts (eqb (bit r) i) _ test).1 f)
  where
    go : (b : Bool) → In f (cond b (entry_of c r ∷ picked (entry_of c) m rs) (picked (entry_of c) m rs)) → bit r ≡ i → (In f (picked (entry_of c) m rs) → suc i ≤ bit f.right) → i ≤ bit f.right
    go true (inl e) b more = let same : bit f.right ≡ bit r = ap (λ x. bit x.right) e in omega arith
    go true (inr j) b more = let k = more j in omega arith
    go false j b more = let k = more j in omega arith

picked_rises : (c : Cell) (m : ℕ) (rs : List Right) (i : ℕ) → numbered i rs ≡ true → RisingEntries (picked (entry_of c) m rs)
unfolding picked
picked_rises c m [] i test = tt
picked_rises c m (r ∷ rs) i test =
    let b = eqb-true _ _ (and_parts (eqb (bit r) i) _ test).0 in
    let rest = (and_parts (eqb (bit r) i) _ test).1 in
    go (has m (bit r)) (all_from_in (Before (entry_of c r)) (picked (entry_of c) m rs) (λ f j. after b f j (at_least c m rs (suc i) rest f j))) (picked_rises c m rs (suc i) rest)
  where
    after : bit r ≡ i → (f : Entry) → In f (picked (entry_of c) m rs) → suc i ≤ bit f.right → Before (entry_of c r) f
    after b f j more =
        let h = in_picked (entry_of c) m f rs j in
        let same : bit f.right ≡ bit h.0 = ap (λ x. bit x.right) h.1 in
        subst (Before (entry_of c r)) (sym h.1) (before_by_bit c r h.0 (omega arith))

    go : (b : Bool) → AllByRecursion (Before (entry_of c r)) (picked (entry_of c) m rs) → RisingEntries (picked (entry_of c) m rs) → RisingEntries (cond b (entry_of c r ∷ picked (entry_of c) m rs) (picked (entry_of c) m rs))
    go true all up = (all, up)
    go false all up = up

pub unpacked_rises : (c : Cell) → RisingEntries (unpacked c)
unpacked_rises c = picked_rises c c.rights rows 0 refl

-- ---- one bit turned

-- the cell has the key of e
abbrev pub KeyOf : Cell → Entry → Type 0
KeyOf c e = e ≡ entry_of c e.right

module _ (c : Cell) (e : Entry) (key : KeyOf c e) where
  other_bit : (f : Entry) → KeyOf c f → (f ≡ e → ⊥) → bit f.right ≡ bit e.right → ⊥
  other_bit f k other same = other (k ∙ ap (entry_of c) (bit_injective _ _ same) ∙ sym key)

  same_bit : (f : Entry) → KeyOf c f → bit f.right ≡ bit e.right → f ≡ e
  same_bit f k same = k ∙ ap (entry_of c) (bit_injective _ _ same) ∙ sym key

  -- whether the cell holds e
  pub holds_set : has c.rights (bit e.right) ≡ true → In e (unpacked c)
  holds_set set = subst (λ f. In f (unpacked c)) (sym key) (unpacked_in c e.right set)

  pub in_turned : (f : Entry) → In f (unpacked (turned c e.right)) → (f ≡ e) ⊎ In f (unpacked c)
  in_turned f i =
      let h = in_unpacked f (turned c e.right) i in
      ⊎_elim (λ same. inl (same_bit f h.0 same))
      (λ other. inr (subst (λ g. In g (unpacked c)) (sym h.0) (unpacked_in c f.right (sym (toggled_other c.rights _ _ other) ∙ h.1)))) (cases_eq (bit f.right) (bit e.right))

  pub turned_on : has c.rights (bit e.right) ≡ false → (f : Entry) → (f ≡ e) ⊎ In f (unpacked c) → In f (unpacked (turned c e.right))
  turned_on unset f (inl p) =
      subst (λ g. In g (unpacked (turned c e.right))) (sym (p ∙ key)) (unpacked_in (turned c e.right) e.right (toggled_same c.rights (bit e.right) ∙ ap not unset))
  turned_on unset f (inr i) =
      let h = in_unpacked f c i in
      let other : bit f.right ≡ bit e.right → ⊥ = λ same. false≢true (sym unset ∙ ap (has c.rights) (sym same) ∙ h.1) in
      subst (λ g. In g (unpacked (turned c e.right))) (sym h.0) (unpacked_in (turned c e.right) f.right (toggled_other c.rights _ _ other ∙ h.1))

  pub turned_off : has c.rights (bit e.right) ≡ true → In e (unpacked (turned c e.right)) → ⊥
  turned_off set i = false≢true (sym (toggled_same c.rights (bit e.right) ∙ ap not set) ∙ (in_unpacked e (turned c e.right) i).1)

  pub turned_rest : (f : Entry) → In f (unpacked c) → (f ≡ e → ⊥) → In f (unpacked (turned c e.right))
  turned_rest f i other =
      let h = in_unpacked f c i in
      subst (λ g. In g (unpacked (turned c e.right))) (sym h.0) (unpacked_in (turned c e.right) f.right (toggled_other c.rights _ _ (other_bit f h.0 other) ∙ h.1))

pub empty_map : (f : Entry) (c : Cell) → c.rights ≡ 0 → In f (unpacked c) → ⊥
empty_map f c none i = let h = in_unpacked f c i in false≢true (sym (none_set (bit f.right)) ∙ ap (λ m. has m (bit f.right)) (sym none) ∙ h.1)
