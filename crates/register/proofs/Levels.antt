-- The levels that are written down are the levels of the rules, and the tests of names are the rules' conditions.
-- Assumes nothing.
use Rattle.std.proofs.Common.{◌≡◌, ℕ, zero, suc, ◌<◌, ◌≤◌, true, ltb, List, [], ◌∷◌, length, get_or, is_some, IfSome, Some, None, Option, sym, refl, ap, ◌∙◌, subst, inr, arith}
use Rattle.std.specs.Option.{option_map}
use Rattle.std.specs.List.{AllByRecursion}
use Rattle.std.proofs.lemmas.List.Elements.{All-weaker, All-from_recursion, recursion_from_All}
use Rattle.std.proofs.lemmas.Bool.{and_parts, and_from, ltb-true, lt-ltb}
use Rattle.rights.specs.declared.records.Subject.{Subject}
use Rattle.rights.specs.declared.records.TableRecord.{TableRecord}
use Rattle.rights.specs.Lists.{Rising}
use Rattle.rights.specs.Refusals.{NoMark, WellMade}
use Rattle.rights.specs.Tables.{Table, Stands, Level, LevelOver}
use Rattle.rights.proofs.Checks.{none_some}
use Rattle.register.specs.Rows.{subjects_of, is_person, tables_of, table_of, names_of, level_at, level_over, stand, rise}
use Rattle.register.proofs.Sound.{Sound, some_from}

-- where the rules have a table, a record stands
pub record_of : (ts : List (Option TableRecord)) (t : ℕ) (r : Table) → tables_of ts t ≡ Some r → (x : TableRecord) × (get_or ts t None ≡ Some x) × (r ≡ table_of x)
record_of ts t r e = go (get_or ts t None) refl
  where
    go : (o : Option TableRecord) → get_or ts t None ≡ o → (x : TableRecord) × (get_or ts t None ≡ Some x) × (r ≡ table_of x)
    go None was = absurd (none_some _ (ap (option_map table_of) (sym was) ∙ e))
    go (Some x) was = let same : Some (table_of x) ≡ Some r = ap (option_map table_of) (sym was) ∙ e in (x, was, cc)

stands_row : (ts : List (Option TableRecord)) (d : ℕ) → Stands (tables_of ts) d → is_some (get_or ts d None) ≡ true
stands_row ts d s = ap is_some (record_of ts d s.0 s.1).1

pub stand_from : (ts : List (Option TableRecord)) (ds : List ℕ) → AllByRecursion (Stands (tables_of ts)) ds → stand ts ds ≡ true
stand_from ts [] h = refl
stand_from ts (d ∷ ds) h = and_from _ _ (stands_row ts d h.0) (stand_from ts ds h.1)

-- what holds of every record that a row could be holds of the one that it is
pub told : (o : Option TableRecord) (P : TableRecord → Type 0) → ((x : TableRecord) → o ≡ Some x → P x) → IfSome o P
told None P each = tt
told (Some x) P each = each x refl

module _ (ss : List (Option Subject)) (ts : List (Option TableRecord)) (s : Sound ss ts) where
  over : (n : ℕ) → ((t : ℕ) (r : TableRecord) → get_or ts t None ≡ Some r → r.level < n → Level (tables_of ts) t r.level) → (ds : List ℕ) → stand ts ds ≡ true → level_over ts ds ≤ n → LevelOver (tables_of ts) ds (level_over ts ds)
  over n below [] e low = LevelOver.over_none
  over n below (d ∷ ds) e low =
      let both = and_parts (is_some (get_or ts d None)) (stand ts ds) e in
      let found = some_from (get_or ts d None) both.0 in
      let at : level_at (get_or ts d None) ≡ found.0.level = ap level_at found.1 in
      LevelOver.over_more (subst (Level (tables_of ts) d) (sym at) (below d found.0 found.1 (omega arith))) (over n below ds both.1 (omega arith))

  levels : (n : ℕ) (t : ℕ) (r : TableRecord) → get_or ts t None ≡ Some r → r.level < n → Level (tables_of ts) t r.level
  levels zero t r e low = absurd (omega arith)
  levels (suc n) t r e low =
      Level.level (ap (option_map table_of) e) (subst (LevelOver (tables_of ts) (names_of r)) (sym (s.levelled t r e)) (over n (levels n) (names_of r) (s.standing t r e) (omega (arith, s.levelled t r e))))

  pub level_is : (t : ℕ) (r : TableRecord) → get_or ts t None ≡ Some r → Level (tables_of ts) t r.level
  level_is t r e = levels (suc r.level) t r e (omega arith)

  pub level_over_is : (ds : List ℕ) → stand ts ds ≡ true → LevelOver (tables_of ts) ds (level_over ts ds)
  level_over_is ds e = over (level_over ts ds) (levels (level_over ts ds)) ds e (omega arith)

  mutual
    level_only : {t n : ℕ} → Level (tables_of ts) t n → n ≡ level_at (get_or ts t None)
    level_only {t} {n} (Level.level {r = r} e over) =
        let found = record_of ts t r e in
        over_only over ∙ ap (λ (x : Table). level_over ts x.names) found.2 ∙ sym (s.levelled t found.0 found.1) ∙ sym (ap level_at found.1)

    pub over_only : {ds : List ℕ} {n : ℕ} → LevelOver (tables_of ts) ds n → n ≡ level_over ts ds
    over_only LevelOver.over_none = refl
    over_only (LevelOver.over_more one rest) = omega (arith, level_only one, over_only rest)

rise_tail : (d : ℕ) (ds : List ℕ) → rise (d ∷ ds) ≡ true → rise ds ≡ true
rise_tail d [] e = refl
rise_tail d (x ∷ ds) e = (and_parts (ltb d x) (rise (x ∷ ds)) e).1

above : (d : ℕ) (ds : List ℕ) → rise (d ∷ ds) ≡ true → AllByRecursion (λ x. d < x) ds
above d [] e = tt
above d (x ∷ ds) e =
    let both = and_parts (ltb d x) (rise (x ∷ ds)) e in
    let first = ltb-true d x both.0 in
    (first, recursion_from_All _ ds (All-weaker (λ y. x < y) (λ y. d < y) (λ y later. omega arith) ds (All-from_recursion _ ds (above x ds both.1))))

rising_from : (ds : List ℕ) → rise ds ≡ true → Rising ◌<◌ ds
rising_from [] e = tt
rising_from (d ∷ ds) e = (above d ds e, rising_from ds (rise_tail d ds e))

rise_from : (ds : List ℕ) → Rising ◌<◌ ds → rise ds ≡ true
rise_from [] h = refl
rise_from (d ∷ []) h = refl
rise_from (d ∷ x ∷ ds) h = and_from _ _ (lt-ltb d x h.0.0) (rise_from (x ∷ ds) h.1)

-- what the code asks of a view's names, which all stand, is what the rules ask
module _ (ss : List (Option Subject)) (ts : List (Option TableRecord)) (s : Sound ss ts) (ds : List ℕ) where
  pub made_from : AllByRecursion (Stands (tables_of ts)) ds → 1 ≤ length ds → length ds ≤ 8 → rise ds ≡ true → level_over ts ds ≤ 7 → WellMade (tables_of ts) ds
  unfolding WellMade
  made_from standing some few rises low = (some, few, rising_from ds rises, (level_over ts ds, level_over_is ss ts s ds (stand_from ts ds standing), low))

  pub made_parts : WellMade (tables_of ts) ds → (1 ≤ length ds) × (length ds ≤ 8) × (rise ds ≡ true) × (level_over ts ds ≤ 7)
  unfolding WellMade
  made_parts made = (made.0, made.1, rise_from ds made.2, omega (arith, over_only ss ts s made.3.1, made.3.2))

-- where nothing stands, the row is empty
pub free_from : (ts : List (Option TableRecord)) (t : ℕ) → (Stands (tables_of ts) t → ⊥) → get_or ts t None ≡ None
free_from ts t free = go (get_or ts t None) refl
  where
    go : (o : Option TableRecord) → get_or ts t None ≡ o → o ≡ None
    go None e = refl
    go (Some r) e = absurd (free (table_of r, ap (option_map table_of) e))

-- whoever may make tables is a person
pub creator_from : (ss : List (Option Subject)) (i : ℕ) → (NoMark (subjects_of ss) i → ⊥) → is_person (get_or ss i None) ≡ true
creator_from ss i may = go (get_or ss i None) refl
  where
    go : (o : Option Subject) → get_or ss i None ≡ o → is_person o ≡ true
    go None e = absurd (may (inr (λ is. none_some _ (sym e ∙ is))))
    go (Some (Subject.Person mark)) e = refl
    go (Some Subject.Group) e = absurd (may (inr (λ is. group_person (sym e ∙ is))))
      where
        group_person : Some Subject.Group ≡ Some (Subject.Person true) → ⊥
        group_person h = let z : ◌≡◌ {A = ℕ} 0 1 = cc in omega arith
