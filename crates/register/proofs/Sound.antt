-- The catalogue's invariant as one record, and how it lasts when nothing stands, or a subject or a table is added.
-- Assumes nothing.
use Rattle.std.proofs.Common.{◌≡◌, ℕ, zero, suc, ◌+◌, ◌<◌, ◌≤◌, max, Bool, true, false, cond, eqb, ◌⊎◌, List, [], ◌∷◌, length, get_or, set, replicate, is_some, Some, None, Option, sym, refl, ap, ◌∙◌, subst, ap₂, inl, inr, ⊎_elim, arith, length-set, get_or-set_other, get_or-set_same}
use mathlib.Core.Path.{fun_ext}
use Rattle.std.specs.Option.{option_map}
use Rattle.rights.specs.declared.records.Subject.{Subject}
use Rattle.rights.specs.declared.records.TableRecord.{TableRecord}
use Rattle.std.proofs.lemmas.Bool.{false≢true, cases_eq, eqb-true, eqb-false, and_parts, and_from}
use Rattle.rights.specs.Subjects.{enrolled}
use Rattle.rights.specs.Tables.{made}
use Rattle.rights.proofs.Checks.{none_some}
use Rattle.register.specs.Rows.{NoOffice, Owned, Few, BlankPast, BlankRest, Standing, RisingNames, Levelled, Low, subjects_of, tables_of, table_of, names_of, is_person, level_at, level_over, stand, rise}

pub record Sound (ss : List (Option Subject)) (ts : List (Option TableRecord)) : Type 0 where
  pub wide : length ss ≡ 256
  pub long : length ts ≡ 128
  pub office : NoOffice ss
  pub owned : Owned ss ts
  pub few : Few ts
  pub blank : BlankRest ts
  pub standing : Standing ts
  pub rising : RisingNames ts
  pub levelled : Levelled ts
  pub low : Low ts

pub some_from : {X : Type 0} (o : Option X) → is_some o ≡ true → (x : X) × (o ≡ Some x)
some_from None e = absurd (false≢true e)
some_from (Some x) e = (x, refl)

pub none_from : {X : Type 0} (o : Option X) → is_some o ≡ false → o ≡ None
none_from None e = refl
none_from (Some x) e = absurd (false≢true (sym e))

pub get_or_fill : {X : Type 0} (d : X) (n k : ℕ) → get_or (replicate n d) k d ≡ d
get_or_fill d zero k = refl
get_or_fill d (suc n) zero = refl
get_or_fill d (suc n) (suc k) = get_or_fill d n k

-- the facts that the struct keeps
abbrev pub Parts : List (Option Subject) → List (Option TableRecord) → Type 0
Parts ss ts = record {
  wide : length ss ≡ 256;
  long : length ts ≡ 128;
  office : NoOffice ss;
  owned : Owned ss ts;
  few : Few ts;
  blank : BlankRest ts;
  standing : Standing ts;
  rising : RisingNames ts;
  levelled : Levelled ts;
  low : Low ts;
}

pub parts : {ss : List (Option Subject)} {ts : List (Option TableRecord)} → Sound ss ts → Parts ss ts
parts s = record { wide = s.wide; long = s.long; office = s.office; owned = s.owned; few = s.few; blank = s.blank; standing = s.standing; rising = s.rising; levelled = s.levelled; low = s.low }

no_row : (m t : ℕ) (r : TableRecord) → get_or (replicate m None) t None ≡ Some r → ⊥
no_row m t r e = none_some _ (sym (get_or_fill None m t) ∙ e)

pub sound_none : Sound (replicate 256 None) (replicate 128 None)
sound_none = record {
  wide = refl;
  long = refl;
  office = refl;
  owned = λ t r e. absurd (no_row 128 t r e);
  few = λ t r e. absurd (no_row 128 t r e);
  blank = λ t r e. absurd (no_row 128 t r e);
  standing = λ t r e. absurd (no_row 128 t r e);
  rising = λ t r e. absurd (no_row 128 t r e);
  levelled = λ t r e. absurd (no_row 128 t r e);
  low = λ t r e. absurd (no_row 128 t r e);
}

-- a person's record under a number that nobody has leaves every other subject as it was
module _ (ss : List (Option Subject)) (ts : List (Option TableRecord)) (n : ℕ) (x : Subject) (free : get_or ss n None ≡ None) (some : 0 < n) where
  kept : (k : ℕ) → is_person (get_or ss k None) ≡ true → is_person (get_or (set ss n (Some x)) k None) ≡ true
  kept k e = ⊎_elim (λ same. absurd (false≢true (sym (ap is_person (ap (λ i. get_or ss i None) same ∙ free)) ∙ e))) (λ ne. ap is_person (get_or-set_other ss n k (Some x) None ne) ∙ e) (cases_eq k n)

  pub sound_enrol : Sound ss ts → Sound (set ss n (Some x)) ts
  sound_enrol s = record {
    wide = length-set ss n (Some x) ∙ s.wide;
    long = s.long;
    office = ap is_some (get_or-set_other ss n 0 (Some x) None (omega arith)) ∙ s.office;
    owned = λ t r e. kept r.owner (s.owned t r e);
    few = s.few;
    blank = s.blank;
    standing = s.standing;
    rising = s.rising;
    levelled = s.levelled;
    low = s.low;
  }

-- a row after one write
pub row_set : {X : Type 0} (l : List X) (n : ℕ) (v d : X) → n < length l → (k : ℕ) → get_or (set l n v) k d ≡ cond (eqb k n) v (get_or l k d)
row_set l n v d within k = row (eqb k n) refl
  where
    row : (b : Bool) → eqb k n ≡ b → get_or (set l n v) k d ≡ cond (eqb k n) v (get_or l k d)
    row true e = rw (e, eqb-true k n e) (get_or-set_same l n v d within)
    row false e = rw e (get_or-set_other l n k v d (eqb-false k n e))

-- one subject more, as the rules say it
pub subjects_enrol : (ss : List (Option Subject)) (n : ℕ) (x : Subject) → n < length ss → subjects_of (set ss n (Some x)) ≡ enrolled n x (subjects_of ss)
subjects_enrol ss n x within = fun_ext (row_set ss n (Some x) None within)

mapped_cond : (b : Bool) (x y : Option TableRecord) → option_map table_of (cond b x y) ≡ cond b (option_map table_of x) (option_map table_of y)
mapped_cond true x y = refl
mapped_cond false x y = refl

-- one table more, as the rules say it
pub tables_made : (ts : List (Option TableRecord)) (t : ℕ) (x : TableRecord) → t < length ts → tables_of (set ts t (Some x)) ≡ made t (table_of x) (tables_of ts)
tables_made ts t x within = fun_ext (λ k. ap (option_map table_of) (row_set ts t (Some x) None within k) ∙ mapped_cond (eqb k t) (Some x) (get_or ts k None))

-- a record that fits, under a number where nothing stands
pub record Fits (ss : List (Option Subject)) (ts : List (Option TableRecord)) (t : ℕ) (x : TableRecord) : Type 0 where
  pub free : get_or ts t None ≡ None
  pub within : t < length ts
  pub owned : is_person (get_or ss x.owner None) ≡ true
  pub few : x.count ≤ 8
  pub blank : BlankPast x
  pub standing : stand ts (names_of x) ≡ true
  pub rising : rise (names_of x) ≡ true
  pub levelled : x.level ≡ level_over ts (names_of x)
  pub low : x.level ≤ 7

module _ (ss : List (Option Subject)) (ts : List (Option TableRecord)) (t : ℕ) (x : TableRecord) (fits : Fits ss ts t x) where
  same_row : (d : ℕ) → is_some (get_or ts d None) ≡ true → get_or (set ts t (Some x)) d None ≡ get_or ts d None
  same_row d e = get_or-set_other ts t d (Some x) None (λ same. false≢true (sym (ap is_some (ap (λ k. get_or ts k None) same ∙ fits.free)) ∙ e))

  stand_kept : (ds : List ℕ) → stand ts ds ≡ true → stand (set ts t (Some x)) ds ≡ true
  stand_kept [] e = refl
  stand_kept (d ∷ ds) e = let both = and_parts (is_some (get_or ts d None)) (stand ts ds) e in and_from _ _ (ap is_some (same_row d both.0) ∙ both.0) (stand_kept ds both.1)

  level_kept : (ds : List ℕ) → stand ts ds ≡ true → level_over (set ts t (Some x)) ds ≡ level_over ts ds
  level_kept [] e = refl
  level_kept (d ∷ ds) e = let both = and_parts (is_some (get_or ts d None)) (stand ts ds) e in ap₂ (λ (o : Option TableRecord) (n : ℕ). max (level_at o + 1) n) (same_row d both.0) (level_kept ds both.1)

  row_cases : (k : ℕ) (r : TableRecord) → get_or (set ts t (Some x)) k None ≡ Some r → (r ≡ x) ⊎ (get_or ts k None ≡ Some r)
  row_cases k r e = ⊎_elim (λ same. inl (new (sym (ap (λ i. get_or (set ts t (Some x)) i None) same ∙ get_or-set_same ts t (Some x) None fits.within) ∙ e))) (λ ne. inr (sym (get_or-set_other ts t k (Some x) None ne) ∙ e)) (cases_eq k t)
    where
      new : Some x ≡ Some r → r ≡ x
      new h = cc

  -- a property of rows holds of every row if it holds of the new one and of the old ones
  each_row : (P : TableRecord → Type 0) → P x → ((k : ℕ) (r : TableRecord) → get_or ts k None ≡ Some r → P r) → (k : ℕ) (r : TableRecord) → get_or (set ts t (Some x)) k None ≡ Some r → P r
  each_row P new old k r e = ⊎_elim (λ same. subst P (sym same) new) (λ was. old k r was) (row_cases k r e)

  pub sound_made : Sound ss ts → Sound ss (set ts t (Some x))
  sound_made s = record {
    wide = s.wide;
    long = length-set ts t (Some x) ∙ s.long;
    office = s.office;
    owned = each_row (λ r. is_person (get_or ss r.owner None) ≡ true) fits.owned s.owned;
    few = each_row (λ r. r.count ≤ 8) fits.few s.few;
    blank = each_row BlankPast fits.blank s.blank;
    standing = each_row (λ r. stand (set ts t (Some x)) (names_of r) ≡ true) (stand_kept _ fits.standing) (λ k r e. stand_kept _ (s.standing k r e));
    rising = each_row (λ r. rise (names_of r) ≡ true) fits.rising s.rising;
    levelled = each_row (λ r. r.level ≡ level_over (set ts t (Some x)) (names_of r)) (fits.levelled ∙ sym (level_kept _ fits.standing)) (λ k r e. s.levelled k r e ∙ sym (level_kept _ (s.standing k r e)));
    low = each_row (λ r. r.level ≤ 7) fits.low s.low;
  }
