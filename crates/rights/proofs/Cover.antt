-- Laws of cover: it grows with the entries, what it comes from at one table, and its test where tables have levels.
use Rattle.std.proofs.Common.{◌≡◌, ℕ, zero, suc, ◌≤◌, Bool, false, ◌&&◌, ◌||◌, eqb, leb, ◌⊎◌, List, Some, None, Decides, sym, refl, ap, ◌∙◌, subst, inl, inr, ⊎_elim}
use Rattle.std.specs.List.{list_any, list_all}
use Rattle.std.proofs.lemmas.Bool.Decides.{Decides-eqb, Decides-and, Decides-or, Decides-like}
use Rattle.std.proofs.lemmas.Option.{same_Some}
use Rattle.rights.specs.declared.entries.Entry.{Entry}
use Rattle.rights.specs.declared.vocabulary.Kind.{Kind}
use Rattle.rights.specs.declared.vocabulary.Privilege.{Privilege}
use Rattle.rights.specs.declared.vocabulary.Rank.{Rank}
use Rattle.rights.specs.declared.vocabulary.Right.{Right}
use Rattle.rights.specs.Cover.{Lends, Covers, by_owning, by_entry, by_names, privilege_in, kind_needed, rank_needed, Supported}
use Rattle.rights.specs.Lists.{In, Inside}
use Rattle.rights.specs.Numbers.{kind_number, rank_number, privilege_number}
use Rattle.rights.specs.Read.{privilege_of}
use Rattle.rights.specs.Tables.{Table, Tables, unmade, Names, Levelled, Extends}
use Rattle.rights.proofs.Deciding.{OrNot, decided_no, decides_leb, decides_and_3, passes, decides_passes, decides_some, decides_each, either_way}
use Rattle.rights.proofs.Tables.{Low, low_named, low_names_none, levels_of, put_other, decides_empty}

privilege_back : (p : Privilege) → privilege_of (privilege_number p) ≡ p
privilege_back Privilege.Select = refl
privilege_back _ = refl

pub privilege_injective : (p q : Privilege) → privilege_number p ≡ privilege_number q → p ≡ q
privilege_injective p q e = sym (privilege_back p) ∙ ap privilege_of e ∙ privilege_back q

-- whether a right lends p with kind at least k and rank at least r
abbrev pub right_lends : Kind → Rank → Privilege → Right → Bool
right_lends k r p (Right.Access q sign s) = false
right_lends k r p (Right.Admin q k' r') = eqb (privilege_number q) (privilege_number p) && (leb (kind_number k) (kind_number k') && leb (rank_number r) (rank_number r'))

decides_right : (k : Kind) (r : Rank) (p : Privilege) (w : Right) → Decides (right_lends k r p w) ((k' : Kind) × (r' : Rank) × (w ≡ Right.Admin p k' r') × (kind_number k ≤ kind_number k') × (rank_number r ≤ rank_number r'))
decides_right k r p (Right.Access q sign s) = decided_no (λ h. apart h.2)
  where
    apart : {k' : Kind} {r' : Rank} → Right.Access q sign s ≡ Right.Admin p k' r' → ⊥
    apart e = cc
decides_right k r p (Right.Admin q k' r') =
    Decides-like _
    (λ h. (k', r', ap (λ x. Right.Admin x k' r') (privilege_injective q p h.0), h.1, h.2))
    (λ h. back h.0 h.1 h.2 h.3 h.4)
    (decides_and_3 _ _ _ (Decides-eqb _ _) (decides_leb _ _) (decides_leb _ _))
  where
    back : (a : Kind) (b : Rank) → Right.Admin q k' r' ≡ Right.Admin p a b → kind_number k ≤ kind_number a → rank_number r ≤ rank_number b → (privilege_number q ≡ privilege_number p) × (kind_number k ≤ kind_number k') × (rank_number r ≤ rank_number r')
    back a b e m n =
        let ep : q ≡ p = cc in
        let ek : a ≡ k' = cc in
        let er : b ≡ r' = cc in
        (ap privilege_number ep, subst (λ x. kind_number k ≤ kind_number x) ek m, subst (λ x. rank_number r ≤ rank_number x) er n)

-- cover stays where the tables and the entries do, among numbers that no view leads out of
module _ (tables more : Tables) (es fs : List Entry) (Among : ℕ → Type 0) (keeps : (d : ℕ) → Among d → (w : Table) → tables d ≡ Some w → more d ≡ Some w) (down : (d c : ℕ) → Among d → Names tables d c → Among c) (stay : (e : Entry) → In e es → Among e.table → In e fs) where
  covers_stays : {x : ℕ} {k : Kind} {r : Rank} {p : Privilege} {d : ℕ} → Covers tables es x k r p d → Among d → Covers more fs x k r p d
  covers_stays (by_owning {t = d} b o) a = by_owning (b.0, keeps d a b.0 b.1, b.2) (o.0, keeps d a o.0 o.1, o.2)
  covers_stays (by_entry {t = d} e i l) a = by_entry e (stay e i (subst Among (sym l.1) a)) l
  covers_stays {x} {k} {r} {p} (by_names {t = d} v o all) a =
      by_names (v.0, keeps d a v.0 v.1, v.2) (o.0, keeps d a o.0 o.1, o.2)
      (λ c n. let named : Names tables d c = (v.0, v.1, subst (λ (w : Table). In c w.names) (same_Some n.0 v.0 (sym n.1 ∙ keeps d a v.0 v.1)) n.2) in covers_stays (all c named) (down d c a named))

module _ (tables : Tables) where
  pub covers_grows : (es fs : List Entry) → Inside es fs → {x : ℕ} {k : Kind} {r : Rank} {p : Privilege} {t : ℕ} → Covers tables es x k r p t → Covers tables fs x k r p t
  covers_grows es fs more c = covers_stays tables tables es fs (λ _. Unit {0}) (λ _ _ _ e. e) (λ _ _ _ _. tt) (λ e i _. more e i) c tt

  pub supported_grows : (es fs : List Entry) → Inside es fs → (e : Entry) → Supported tables es e → Supported tables fs e
  unfolding Supported
  supported_grows es fs more e s = covers_grows es fs more s

  module _ (entries : List Entry) (x : ℕ) (k : Kind) (r : Rank) (p : Privilege) where
    -- x owns the table, and covers every table that it names
    abbrev pub Owned : Table → Type 0
    Owned w = (w.owner ≡ x) × ((d : ℕ) → In d w.names → Covers tables entries x k r p d)

    -- where cover on t can come from
    abbrev pub Sources : ℕ → Type 0
    Sources t = ((e : Entry) × In e entries × Lends e x k r p t) ⊎ ((w : Table) × (tables t ≡ Some w) × Owned w)

    pub covers_sources : {t : ℕ} → Covers tables entries x k r p t → Sources t
    covers_sources (by_owning b o) =
        let e : b.0 ≡ o.0 = cc (b.1, o.1) in
        inr (b.0, b.1, (subst (λ (w : Table). w.owner ≡ x) (sym e) o.2, λ d i. absurd (subst (In d) b.2 i)))
    covers_sources (by_entry e i l) = inl (e, i, l)
    covers_sources (by_names v o all) = inr (o.0, o.1, (o.2, λ d i. all d (o.0, o.1, i)))

    pub sources_covers : (t : ℕ) → Sources t → Covers tables entries x k r p t
    sources_covers t (inl h) = by_entry h.0 h.1 h.2
    sources_covers t (inr (w, e, (o, all))) =
        ⊎_elim (λ n. by_owning (w, e, n) (w, e, o))
        (λ n. by_names (w, e, n) (w, e, o) (λ c h. all c (subst (λ (z : Table). In c z.names) (same_Some h.0 w (sym h.1 ∙ e)) h.2)))
        (either_way _ (decides_empty w.names))

    abbrev pub lends_test : ℕ → Entry → Bool
    lends_test t e = eqb e.subject x && (eqb e.table t && right_lends k r p e.right)

    decides_lends : (t : ℕ) (e : Entry) → Decides (lends_test t e) (Lends e x k r p t)
    decides_lends t e = decides_and_3 _ _ _ (Decides-eqb _ _) (Decides-eqb _ _) (decides_right k r p e.right)

    -- by owning the table, with a test for the tables that it names
    abbrev pub owned_test : (ℕ → Bool) → Table → Bool
    owned_test f w = eqb w.owner x && list_all f w.names

    -- the test of cover on a table of level at most n
    abbrev pub covers_test : ℕ → ℕ → Bool
    covers_test zero t = let owned = passes (owned_test (λ d. false)) (tables t) in list_any (lends_test t) entries || owned
    covers_test (suc n) t = let owned = passes (owned_test (λ d. covers_test n d)) (tables t) in list_any (lends_test t) entries || owned

    decides_sources : (f : ℕ → Bool) (t : ℕ) → ((d : ℕ) → Names tables t d → Decides (f d) (Covers tables entries x k r p d)) → Decides (list_any (lends_test t) entries || passes (owned_test f) (tables t)) (Covers tables entries x k r p t)
    decides_sources f t d =
        Decides-like _ (sources_covers t) covers_sources
        (Decides-or _ _ (decides_some (λ e. Lends e x k r p t) (lends_test t) entries (λ e _. decides_lends t e)) (decides_passes Owned (owned_test f) (tables t)
        (λ w e. Decides-and _ _ (Decides-eqb _ _) (decides_each (λ c. Covers tables entries x k r p c) f w.names (λ c i. d c (w, e, i))))))

    -- cover on a table of level at most n is decided
    pub decides_covers : (n t : ℕ) → Low tables n t → Decides (covers_test n t) (Covers tables entries x k r p t)
    decides_covers zero t low = decides_sources (λ d. false) t (λ d n. absurd (low_names_none tables t d low n))
    decides_covers (suc n) t low = decides_sources (λ d. covers_test n d) t (λ d h. decides_covers n d (low_named tables n t d low h))

    -- cover is decidable where every table that stands has a level
    pub covers_or_not : Levelled tables → (t : ℕ) → OrNot (Covers tables entries x k r p t)
    covers_or_not levels t = let l = levels_of tables levels t in either_way (covers_test l.0 t) (decides_covers l.0 t l.1)

-- more tables, more is covered
pub covers_extends : (tables more : Tables) → Extends tables more → (entries : List Entry) {x : ℕ} {k : Kind} {r : Rank} {p : Privilege} {t : ℕ} → Covers tables entries x k r p t → Covers more entries x k r p t
covers_extends tables more keeps entries c = covers_stays tables more entries entries (λ _. Unit {0}) (λ d _. keeps d) (λ _ _ _ _. tt) (λ _ i _. i) c tt

pub supported_extends : (tables more : Tables) → Extends tables more → (entries : List Entry) (e : Entry) → Supported tables entries e → Supported more entries e
unfolding Supported
supported_extends tables more keeps entries e s = covers_extends tables more keeps entries s

-- where no view names t, cover on another table does not come from t or from entries on it
module _ (tables : Tables) (t : ℕ) (free : (v : ℕ) → Names tables v t → ⊥) where
  pub covers_apart : (es fs : List Entry) → ((e : Entry) → In e es → (e.table ≡ t → ⊥) → In e fs) → {x : ℕ} {k : Kind} {r : Rank} {p : Privilege} {d : ℕ} → Covers tables es x k r p d → (d ≡ t → ⊥) → Covers (unmade t tables) fs x k r p d
  covers_apart es fs others c apart = covers_stays tables (unmade t tables) es fs (λ d. d ≡ t → ⊥) (λ d n w e. put_other tables t None d n ∙ e) (λ v d _ named same. free v (subst (Names tables v) same named)) others c apart

  pub supported_apart : (es fs : List Entry) → ((e : Entry) → In e es → (e.table ≡ t → ⊥) → In e fs) → (e : Entry) → Supported tables es e → (e.table ≡ t → ⊥) → Supported (unmade t tables) fs e
  unfolding Supported
  supported_apart es fs others e s apart = covers_apart es fs others s apart

-- the test of whether e's grantor has the cover that e needs, on a table of level at most n
abbrev pub supported_test : Tables → ℕ → List Entry → Entry → Bool
supported_test tables n entries e = covers_test tables entries e.grantor (kind_needed e.right) (rank_needed e.right) (privilege_in e.right) n e.table

pub decides_supported : (tables : Tables) (n : ℕ) (entries : List Entry) (e : Entry) → Low tables n e.table → Decides (supported_test tables n entries e) (Supported tables entries e)
unfolding Supported
decides_supported tables n entries e low = decides_covers tables entries _ _ _ _ n e.table low

pub supported_or_not : (tables : Tables) → Levelled tables → (entries : List Entry) (e : Entry) → OrNot (Supported tables entries e)
unfolding Supported
supported_or_not tables levels entries e = covers_or_not tables entries _ _ _ _ levels e.table
