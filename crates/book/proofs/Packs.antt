-- What the code of a cell book reads and writes, told of its cells and entries.
use Rattle.std.proofs.Common.{◌≡◌, ℕ, ◌<◌, ◌≤◌, true, false, length, get_or, set, Ok, Err, ◌↔◌, IsTrue, Bool, is_ok, MatchResult, Option, Result, OnOk, List, take, sym, refl, ap, ◌∙◌, subst, arith}
use Rattle.std.specs.List.{slice_get, insert, remove}
use Rattle.std.specs.Option.{OnSome, ok_or}
use Rattle.std.specs.Result.{result_ok}
use Rattle.std.proofs.lemmas.List.Edits.{length-insert, length-remove}
use Rattle.std.proofs.lemmas.Bool.{false≢true}
use Rattle.std.proofs.lemmas.List.{get_or_default, length-set, take-set-le}
use Rattle.rights.specs.declared.entries.Entry.{Entry}
use Rattle.rights.specs.declared.faults.BookFault.{BookFault}
use Rattle.rights.specs.Bits.{bit}
use Rattle.rights.specs.Entries.{Proper}
use Rattle.rights.specs.Lists.{In}
use Rattle.book.specs.declared.packed.Cells.{Cells}
use Rattle.rising.specs.declared.fronts.Front.{Front}
use Rattle.rising.proofs.Filled.{front_first}
use Rattle.book.specs.declared.keyed.Cell.{Cell}
use Rattle.book.specs.Cells.{has, unpacked, held, numbered, counted_on, turned, key_cell, CellFinding}
use Rattle.book.specs.Effects.{with_entry, without_entry}
use Rattle.rising.specs.Fronts.{stored, whole, SameRest, Refilled}
use Rattle.book.specs.Packing.{cells, packed}
use Rattle.book.proofs.Counts.{Orderly, no_cell, orderly_book, few_cells, KeptCells, few_held, counts_stand, changed_holds, changed_rest, kept_cells}
use Rattle.book.proofs.Refused.{of_some, of_ok}
use Rattle.book.proofs.Turns as turn
use Rattle.book.proofs.Unpacked.{KeyOf}

-- what is known where the cells have changed before they are counted anew from place i on: es will stand
pub record Changed (b : Cells) (es : List Entry) (i : ℕ) (f : Front Cell) : Type 0 where
  pub place : i ≤ length (stored f)
  pub counted : numbered 0 (take i (stored f)) ≡ true
  pub few : length (held (stored f)) ≤ 4096
  pub keeps : (after : Front Cell) → Refilled f (counted_on 0 (stored f)) after → KeptCells after b.ceiling
  pub stands : (after : Front Cell) → Refilled f (counted_on 0 (stored f)) after → held (stored after) ≡ es
  pub rest : (after : Front Cell) → Refilled f (counted_on 0 (stored f)) after → SameRest b.front after

changed : (b : Cells) (es : List Entry) (i : ℕ) (f : Front Cell) (cs : List Cell) → Refilled b.front cs f → Orderly cs b.ceiling → held cs ≡ es → i ≤ length cs → take i cs ≡ take i (cells b) → Changed b es i f
changed b es i f cs to o is place same = record {
  place = omega (arith, ap length to.holds);
  counted = counts_stand b f cs to o i same;
  few = few_held b f cs to o;
  keeps = λ after on. kept_cells b f cs to o after on;
  stands = λ after on. changed_holds b f cs to o after on ∙ is;
  rest = λ after on. changed_rest b f cs to o after on;
}

-- the count is not the ceiling
below : (b : Cells) → (length (packed b) ≡ b.ceiling → ⊥) → length (packed b) < b.ceiling
below b other = omega (arith, b.counted)

-- the cell at place i has the key of e; the cells are read as a list
module _ (b : Cells) (e : Entry) (i : ℕ) (found : CellFinding e (cells b) (Ok i)) (list : List Cell) (same : list ≡ cells b) where
  there : KeyOf (get_or (cells b) i no_cell) e
  there = subst (λ c. KeyOf c e) (get_or_default (cells b) i (key_cell e) no_cell found.0) found.1

  tells : IsTrue (has (get_or list i no_cell).rights (bit e.right)) ↔ In e (packed b)
  tells = subst (λ l. IsTrue (has (get_or l i no_cell).rights (bit e.right)) ↔ In e (packed b)) (sym same) (turn.stands_if_set e (cells b) b.ceiling i no_cell (orderly_book b) found.0 there)

  pub set_stands : true ≡ has (get_or list i no_cell).rights (bit e.right) → In e (packed b)
  set_stands is = tells.0 (sym is)

  pub unset_absent : false ≡ has (get_or list i no_cell).rights (bit e.right) → In e (packed b) → ⊥
  unset_absent is h = false≢true (is ∙ tells.1 h)

  -- as the cells have it
  in_cells : {t : Bool} → t ≡ has (get_or list i no_cell).rights (bit e.right) → has (get_or (cells b) i no_cell).rights (bit e.right) ≡ t
  in_cells is = sym (is ∙ ap (λ l. has (get_or l i no_cell).rights (bit e.right)) same)

  -- the cell that is there is put back with the bit of e turned
  module _ (x : Cell) (is : x ≡ turned (get_or list i no_cell) e.right) (r : Option Cell) (gives : r ≡ slice_get (cells b) i) (f : Front Cell) (some : OnSome r (Refilled b.front (set (cells b) i x) f)) where
    with_back : (es : List Entry) → Orderly (set (cells b) i (turned (get_or (cells b) i no_cell) e.right)) b.ceiling → held (set (cells b) i (turned (get_or (cells b) i no_cell) e.right)) ≡ es → Changed b es i f
    with_back es o stand =
        let to = subst (λ y. Refilled b.front (set (cells b) i y) f) (is ∙ ap (λ l. turned (get_or l i no_cell) e.right) same) (of_some r (cells b) i found.0 gives some) in
        changed b es i f _ to o stand (omega (arith, length-set (cells b) i (turned (get_or (cells b) i no_cell) e.right), found.0)) (take-set-le i (cells b) i _ (omega arith))

    pub put_changed : false ≡ has (get_or list i no_cell).rights (bit e.right) → Proper e → (length (packed b) ≡ b.ceiling → ⊥) → Changed b (with_entry e (packed b)) i f
    put_changed unset good other =
        let off = in_cells unset in
        let room = below b other in
        with_back _ (turn.put_set_orderly e (cells b) b.ceiling i no_cell (orderly_book b) found.0 there off good room) (turn.put_set e (cells b) b.ceiling i no_cell (orderly_book b) found.0 there off good room)

    pub take_changed : true ≡ has (get_or list i no_cell).rights (bit e.right) → (length (unpacked (get_or list i no_cell)) ≡ 1 → ⊥) → Changed b (without_entry e (packed b)) i f
    take_changed is_set more =
        let on = in_cells is_set in
        let some_left : length (unpacked (get_or (cells b) i no_cell)) ≡ 1 → ⊥ = λ one. more (ap (λ l. length (unpacked (get_or l i no_cell))) same ∙ one) in
        with_back _ (turn.take_set_orderly e (cells b) b.ceiling i no_cell (orderly_book b) found.0 there on some_left) (turn.take_set' e (cells b) b.ceiling i no_cell (orderly_book b) found.0 there on)

  pub take_shrunk : true ≡ has (get_or list i no_cell).rights (bit e.right) → length (unpacked (get_or list i no_cell)) ≡ 1 → (r : Option Cell) → r ≡ slice_get (cells b) i → (f : Front Cell) → OnSome r (Refilled b.front (remove (cells b) i) f) → Changed b (without_entry e (packed b)) i f
  take_shrunk is_set size r gives f some =
      let on = in_cells is_set in
      let one = sym (ap (λ l. length (unpacked (get_or l i no_cell))) same) ∙ size in
      let less = length-remove (cells b) i found.0 in
      changed b _ i f _ (of_some r (cells b) i found.0 gives some) (turn.take_cell_orderly e (cells b) b.ceiling i no_cell (orderly_book b) found.0 there on one)
      (turn.take_cell e (cells b) b.ceiling i no_cell (orderly_book b) found.0 there on one) (omega (arith, found.0)) (front_first i (cells b) _ (omega (arith, found.0)))

-- no cell has the key of e
module _ (b : Cells) (e : Entry) (i : ℕ) (found : CellFinding e (cells b) (Err i)) where
  pub absent : In e (packed b) → ⊥
  absent = turn.stands_nowhere e (cells b) b.ceiling i (orderly_book b) found

  module _ (good : Proper e) (other : length (packed b) ≡ b.ceiling → ⊥) where
    -- no more cells are used than entries stand, so there is room for one more below the ceiling
    pub cell_fits : (i ≤ length (cells b)) × (length (cells b) < length (whole b.front))
    cell_fits = let few = few_cells (cells b) (orderly_book b).filled in let room = below b other in (found.0, omega (arith, b.room))

    pub put_grown : {X : Type 0} (x : Cell) → x ≡ turned (key_cell e) e.right → (r : Result (Unit {0}) X) → is_ok r ≡ true → (f : Front Cell) → OnOk r (Refilled b.front (insert (cells b) i x) f) → Changed b (with_entry e (packed b)) i f
    put_grown x is r done f ok =
        let room = below b other in
        let more = length-insert (cells b) i (turned (key_cell e) e.right) found.0 in
        changed b _ i f _ (subst (λ y. Refilled b.front (insert (cells b) i y) f) is (of_ok r done ok)) (turn.put_cell_orderly e (cells b) b.ceiling i (orderly_book b) found good room)
        (turn.put_cell e (cells b) b.ceiling i (orderly_book b) found good room) (omega (arith, found.0)) (front_first i (cells b) _ found.0)

-- where the search for a cell found none
pub cell_absent : (b : Cells) (e : Entry) (r : Result ℕ ℕ) {o : Option ℕ} {m : Result ℕ BookFault} (f : BookFault) → CellFinding e (cells b) r → o ≡ result_ok r → m ≡ ok_or o BookFault.Absent → m ≡ Err f → (In e (packed b) → ⊥) × (f ≡ BookFault.Absent)
cell_absent b e (Ok j) f h was gave is = absurd (cc)
cell_absent b e (Err j) f h was gave is = (absent b e j h, cc)

-- whether an entry stands is asked of the cell that has its key, if any has
pub asked : (b : Cells) (e : Entry) (r : Result ℕ ℕ) (t : Bool) (P : ℕ → Type 0) → CellFinding e (cells b) r → MatchResult r P (λ _. t ≡ false) → ((i : ℕ) → P i → t ≡ has (get_or (cells b) i no_cell).rights (bit e.right)) → IsTrue t ↔ In e (packed b)
asked b e (Ok i) t P found says holds = subst (λ x. IsTrue x ↔ In e (packed b)) (sym (holds i says)) (tells b e i found (cells b) refl)
asked b e (Err i) t P found fails holds = ((λ passes. absurd (false≢true (sym fails ∙ passes))), (λ h. absurd (absent b e i found h)))
