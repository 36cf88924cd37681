-- The laws of tables: beneath is transitive, a level is unique and falls from a view to what it names,
-- and tests that decide what stands, what a table names and what is beneath it.
use Rattle.std.proofs.Common.{◌≡◌, ℕ, zero, suc, ◌+◌, ◌<◌, ◌≤◌, max, Bool, false, cond, not, ◌||◌, eqb, ◌⊎◌, List, [], length, Some, None, Decides, Option, sym, refl, ap, ◌∙◌, subst, ap₂, inl, inr, ⊎_elim, arith}
use Rattle.std.specs.List.{list_any}
use Rattle.std.specs.Option.{unwrap_or, option_map}
use Rattle.std.proofs.lemmas.Bool.{eqb-true, eqb-false, ne_eqb, cond-false, cond_both}
use Rattle.std.proofs.lemmas.Bool.Decides.{Decides-eqb, Decides-or, Decides-not, Decides-like}
use Rattle.std.proofs.lemmas.List.{nil_from_length}
use Rattle.std.proofs.lemmas.Option.{none-some, same_Some}
use Rattle.rights.specs.Lists.{In}
use Rattle.rights.specs.Tables.{Table, Tables, no_tables, made, unmade, Stands, IsBase, IsView, Owns, Names, Beneath, named, deeper, Level, level, LevelOver, over_none, over_more, Levelled, Extends}
use Rattle.rights.proofs.Deciding.{OrNot, decided_no, either_way, decides_is_some, passes, decides_passes, decides_some, decides_in}

-- what stands under a number where o is put under n
module _ {X : Type 0} (under : ℕ → Option X) (n : ℕ) (o : Option X) where
  pub put_other : (d : ℕ) → (d ≡ n → ⊥) → cond (eqb d n) o (under d) ≡ under d
  put_other d apart = cond-false (eqb d n) o (under d) (ne_eqb d n apart)

  pub put_cases : (d : ℕ) (q : Option X) → cond (eqb d n) o (under d) ≡ q → ((d ≡ n) × (o ≡ q)) ⊎ ((d ≡ n → ⊥) × (under d ≡ q))
  put_cases d q =
      cond_both (eqb d n) o (under d) (λ p. p ≡ q → ((d ≡ n) × (o ≡ q)) ⊎ ((d ≡ n → ⊥) × (under d ≡ q)))
      (λ e k. inl (eqb-true d n e, k)) (λ e k. inr (eqb-false d n e, k))

module _ (tables : Tables) where
  pub beneath_trans : {b t v : ℕ} → Beneath tables b t → Beneath tables t v → Beneath tables b v
  beneath_trans b (named n) = deeper n b
  beneath_trans b (deeper n q) = deeper n (beneath_trans b q)

  -- what has something beneath it stands, and names something
  pub beneath_names : {b t : ℕ} → Beneath tables b t → (d : ℕ) × Names tables t d
  beneath_names (named {t} n) = (t, n)
  beneath_names (deeper {w = w} n q) = (w, n)

  -- what is beneath something is named by something
  pub beneath_named : {b t : ℕ} → Beneath tables b t → (v : ℕ) × Names tables v b
  beneath_named (named {v = v} n) = (v, n)
  beneath_named (deeper n q) = beneath_named q

  pub names_stands : (v t : ℕ) → Names tables v t → Stands tables v
  names_stands v t n = (n.0, n.1)

  -- nothing is beneath a base table
  pub beneath_base : (b t : ℕ) → IsBase tables t → Beneath tables b t → ⊥
  beneath_base b t base q = let n = (beneath_names q).1 in
      let same : n.0 ≡ base.0 = same_Some n.0 base.0 (sym n.1 ∙ base.1) in
      subst (In (beneath_names q).0) (ap (λ r. r.names) same ∙ base.2) n.2

  mutual
    pub level_unique : {t n m : ℕ} → Level tables t n → Level tables t m → n ≡ m
    level_unique (level {r = r} e o) (level {n = m} {r = q} f p) = over_unique o (subst (λ ds. LevelOver tables ds m) (ap (λ r. r.names) (same_Some q r (sym f ∙ e))) p)

    over_unique : {ds : List ℕ} {n m : ℕ} → LevelOver tables ds n → LevelOver tables ds m → n ≡ m
    over_unique over_none over_none = refl
    over_unique (over_more a o) (over_more b p) = ap₂ (λ k n. max (k + 1) n) (level_unique a b) (over_unique o p)

  -- a table in the list has a lower level
  pub over_lower : {ds : List ℕ} {n : ℕ} → LevelOver tables ds n → (t : ℕ) → In t ds → (k : ℕ) × Level tables t k × (k < n)
  over_lower over_none t i = absurd i
  over_lower (over_more {d} {k} {n} a o) t (inl e) = (k, subst (λ x. Level tables x k) (sym e) a, omega arith)
  over_lower (over_more {d} {k} {n} a o) t (inr i) = let h = over_lower o t i in let lt = h.2 in (h.0, h.1, omega arith)

  -- a level falls from a view to what it names
  pub names_lower : {v n : ℕ} → Level tables v n → (t : ℕ) → Names tables v t → (k : ℕ) × Level tables t k × (k < n)
  names_lower (level {r = r} e o) t h = over_lower o t (subst (λ q. In t q.names) (same_Some h.0 r (sym h.1 ∙ e)) h.2)

  -- and to whatever is beneath it
  pub beneath_lower : {b v : ℕ} → Beneath tables b v → (n : ℕ) → Level tables v n → (k : ℕ) × Level tables b k × (k < n)
  beneath_lower (named {t} h) n l = names_lower l t h
  beneath_lower (deeper {w = w} h q) n l =
      let a = names_lower l w h in
      let c = beneath_lower q a.0 a.1 in
      let lt = a.2 in
      let le = c.2 in
      (c.0, c.1, omega arith)

  -- a table with a level is not beneath itself
  pub not_beneath_itself : (t n : ℕ) → Level tables t n → Beneath tables t t → ⊥
  not_beneath_itself t n l q = let h = beneath_lower q n l in let e = level_unique h.1 l in let lt = h.2 in omega arith

  -- where everything has a level nothing is beneath itself
  pub levelled_apart : Levelled tables → (t : ℕ) → Beneath tables t t → ⊥
  levelled_apart levels t q = let n = (beneath_names q).1 in let l = levels t (n.0, n.1) in not_beneath_itself t l.0 l.1 q

pub decides_empty : (ds : List ℕ) → Decides (eqb (length ds) 0) (ds ≡ [])
decides_empty ds = Decides-like _ (nil_from_length ds) (λ e. ap length e) (Decides-eqb (length ds) 0)

module _ (tables : Tables) where
  abbrev pub base_test : ℕ → Bool
  base_test t = passes (λ r. eqb (length r.names) 0) (tables t)

  abbrev pub view_test : ℕ → Bool
  view_test t = passes (λ r. not (eqb (length r.names) 0)) (tables t)

  abbrev pub owns_test : ℕ → ℕ → Bool
  owns_test x t = passes (λ r. eqb r.owner x) (tables t)

  abbrev pub names_test : ℕ → ℕ → Bool
  names_test v t = passes (λ r. list_any (eqb t) r.names) (tables v)

  pub decides_base : (t : ℕ) → Decides (base_test t) (IsBase tables t)
  decides_base t = decides_passes (λ r. r.names ≡ []) _ (tables t) (λ r _. decides_empty r.names)

  pub decides_view : (t : ℕ) → Decides (view_test t) (IsView tables t)
  decides_view t = decides_passes (λ r. r.names ≡ [] → ⊥) _ (tables t) (λ r _. Decides-not _ (decides_empty r.names))

  pub decides_owns : (x t : ℕ) → Decides (owns_test x t) (Owns tables x t)
  decides_owns x t = decides_passes (λ r. r.owner ≡ x) _ (tables t) (λ r _. Decides-eqb r.owner x)

  pub decides_names : (v t : ℕ) → Decides (names_test v t) (Names tables v t)
  decides_names v t = decides_passes (λ r. In t r.names) _ (tables v) (λ r _. decides_in eqb Decides-eqb t r.names)

-- the tables that a table names, none where nothing stands
abbrev pub names_of : Option Table → List ℕ
names_of o = unwrap_or (option_map (λ (r : Table). r.names) o) []

-- if t stands, it has a level of at most n
abbrev pub Low : Tables → ℕ → ℕ → Type 0
Low tables n t = Stands tables t → (k : ℕ) × Level tables t k × (k ≤ n)

module _ (tables : Tables) where
  pub names_in : (v t : ℕ) → Names tables v t → In t (names_of (tables v))
  names_in v t h = subst (λ o. In t (names_of o)) (sym h.1) h.2

  pub in_names : (v t : ℕ) → In t (names_of (tables v)) → Names tables v t
  in_names v t i = by (tables v) i
    where
      by : (o : Option Table) → In t (names_of o) → (r : Table) × (o ≡ Some r) × In t r.names
      by None j = absurd j
      by (Some r) j = (r, refl, j)

  -- what a table names lies lower
  pub low_named : (n v t : ℕ) → Low tables (suc n) v → Names tables v t → Low tables n t
  low_named n v t low h st =
      let l = low (h.0, h.1) in
      let k = names_lower tables l.1 t h in
      let lt = k.2 in
      let le = l.2 in
      (k.0, k.1, omega arith)

  -- a table of level 0 names none
  pub low_names_none : (v t : ℕ) → Low tables 0 v → Names tables v t → ⊥
  low_names_none v t low h = let l = low (h.0, h.1) in let k = names_lower tables l.1 t h in let lt = k.2 in let le = l.2 in omega arith

  -- b is beneath t, looked for through n levels
  abbrev pub beneath_test : ℕ → ℕ → ℕ → Bool
  beneath_test zero b t = false
  beneath_test (suc n) b t = list_any (λ d. let deep = beneath_test n b d in eqb b d || deep) (names_of (tables t))

  pub decides_beneath : (n b t : ℕ) → Low tables n t → Decides (beneath_test n b t) (Beneath tables b t)
  decides_beneath zero b t low = decided_no (λ q. let n = beneath_names tables q in low_names_none t n.0 low n.1)
  decides_beneath (suc n) b t low = Decides-like (beneath_test (suc n) b t) found sought
      (decides_some (λ d. (b ≡ d) ⊎ Beneath tables b d) (λ d. eqb b d || beneath_test n b d) (names_of (tables t))
      (λ d i. Decides-or (eqb b d) (beneath_test n b d) (Decides-eqb b d) (decides_beneath n b d (low_named n t d low (in_names t d i)))))
    where
      found : (d : ℕ) × In d (names_of (tables t)) × ((b ≡ d) ⊎ Beneath tables b d) → Beneath tables b t
      found h = ⊎_elim (λ e. named (in_names t b (subst (λ x. In x (names_of (tables t))) (sym e) h.1))) (λ q. deeper (in_names t h.0 h.1) q) h.2

      sought : Beneath tables b t → (d : ℕ) × In d (names_of (tables t)) × ((b ≡ d) ⊎ Beneath tables b d)
      sought (named h) = (b, names_in t b h, inl refl)
      sought (deeper {w = w} h q) = (w, names_in t w h, inr q)

  -- a level for every number, 0 where nothing stands
  pub levels_of : Levelled tables → (t : ℕ) → (n : ℕ) × Low tables n t
  levels_of levels t =
      ⊎_elim (λ st. let l = levels t st in (l.0, λ _. (l.0, l.1, omega arith))) (λ n. (0, λ st. absurd (n st)))
      (either_way _ (decides_is_some (tables t)))

  pub beneath_or_not : Levelled tables → (b t : ℕ) → OrNot (Beneath tables b t)
  beneath_or_not levels b t = let l = levels_of levels t in either_way (beneath_test l.0 b t) (decides_beneath l.0 b t l.1)

module _ (tables more : Tables) (keeps : Extends tables more) where
  pub beneath_extends : {b t : ℕ} → Beneath tables b t → Beneath more b t
  beneath_extends (named {v = v} n) = named (n.0, keeps v n.0 n.1, n.2)
  beneath_extends (deeper {v = v} n q) = deeper (n.0, keeps v n.0 n.1, n.2) (beneath_extends q)

-- levels stay where the tables do, among numbers that no view leads out of
module _ (tables more : Tables) (Among : ℕ → Type 0) (keeps : (d : ℕ) → Among d → (r : Table) → tables d ≡ Some r → more d ≡ Some r) (down : (d c : ℕ) → Among d → Names tables d c → Among c) where
  mutual
    pub level_stays : {t n : ℕ} → Level tables t n → Among t → Level more t n
    level_stays (level {t = t} {r = r} e o) a = level (keeps t a r e) (over_stays o (λ c i. down t c a (r, e, i)))

    pub over_stays : {ds : List ℕ} {n : ℕ} → LevelOver tables ds n → ((c : ℕ) → In c ds → Among c) → LevelOver more ds n
    over_stays over_none all = over_none
    over_stays (over_more {d = d} l o) all = over_more (level_stays l (all d (inl refl))) (over_stays o (λ c i. all c (inr i)))

module _ (tables : Tables) (t : ℕ) (r : Table) where
  -- a table under a free number changes no other
  pub made_extends : tables t ≡ None → Extends tables (made t r tables)
  made_extends free d q e = put_other tables t (Some r) d (λ same. none-some q (sym free ∙ (ap tables (sym same) ∙ e))) ∙ e

  -- a table made over tables of such levels has its level too
  pub low_made : (n k : ℕ) → ((d : ℕ) → Low tables n d) → tables t ≡ None → LevelOver tables r.names k → k ≤ n → (d : ℕ) → Low (made t r tables) n d
  low_made n k low free o le d st =
      ⊎_elim (λ h. (k, level (st.1 ∙ sym h.1) (over_stays tables (made t r tables) (λ _. Unit {0}) (λ c _. made_extends free c) (λ _ _ _ _. tt) o (λ _ _. tt)), le))
      (λ h. let l = low d (st.0, h.1) in (l.0, level_stays tables (made t r tables) (λ _. Unit {0}) (λ c _. made_extends free c) (λ _ _ _ _. tt) l.1 tt, l.2))
      (put_cases tables t (Some r) d (Some st.0) st.1)

-- taking a table out adds none
pub unmade_extends : (tables : Tables) (t : ℕ) → Extends (unmade t tables) tables
unmade_extends tables t d r e = ⊎_elim (λ h. absurd (none-some r h.1)) (λ h. h.1) (put_cases tables t None d (Some r) e)

pub low_none : (n t : ℕ) → Low no_tables n t
low_none n t st = absurd (none-some st.0 st.1)
