-- The laws of clash: it is the first and the second rule applying together where minuses stand on base tables only,
-- it grows with the pairs, the tables and the entries, and a test decides it.
use Rattle.std.proofs.Common.{◌≡◌, ℕ, Bool, ◌&&◌, ◌||◌, eqb, ◌⊎◌, List, [], ◌∷◌, ◌++◌, map, Decides, sym, refl, ap, subst, inl, inr, ⊎_elim}
use Rattle.std.specs.List.{list_any}
use Rattle.std.proofs.lemmas.Bool.Decides.{Decides-eqb, Decides-and, Decides-or, Decides-like}
use Rattle.rights.specs.declared.entries.Entry.{Entry}
use Rattle.rights.specs.declared.entries.Pair.{Pair}
use Rattle.rights.specs.declared.vocabulary.Privilege.{Privilege}
use Rattle.rights.specs.declared.vocabulary.Right.{Right}
use Rattle.rights.specs.declared.vocabulary.Sign.{Sign}
use Rattle.rights.specs.declared.vocabulary.Strength.{Strength}
use Rattle.rights.specs.Access.{Denied}
use Rattle.rights.specs.Clash.{Clash, Clashing}
use Rattle.rights.specs.Holding.{Holds, StrongPlus, StrongMinus, MinusOnBases}
use Rattle.rights.specs.Lists.{In, Inside}
use Rattle.rights.specs.Pairs.{pair}
use Rattle.rights.specs.Tables.{Tables, IsBase, AtOrBeneath, Levelled, Extends}
use Rattle.rights.specs.Within.{Within, Below}
use Rattle.rights.proofs.Deciding.{SomeIn, decides_some, either_way}
use Rattle.rights.proofs.Holding.{same_right, decides_same_right, strong_plus_test, decides_strong_plus, strong_plus_grows, strong_minus_grows}
use Rattle.rights.proofs.Parts.{in_left, in_right}
use Rattle.rights.proofs.Tables.{Low, beneath_base, beneath_extends, beneath_test, decides_beneath, levels_of}
use Rattle.rights.proofs.Within.{within_cases, within_test, decides_within}

-- more pairs, tables and entries: no less is denied, and there are no fewer clashes
module _ (ps qs : List Pair) (pairs_in : Inside ps qs) (tables more : Tables) (keeps : Extends tables more) (es fs : List Entry) (entries_in : Inside es fs) where
  pub denied_grows : (u : ℕ) (p : Privilege) (t : ℕ) → Denied ps tables es u p t → Denied qs more fs u p t
  unfolding Denied
  denied_grows u p t (inl m) = inl (strong_minus_grows ps qs pairs_in es fs entries_in u p t m)
  denied_grows u p t (inr h) = let base = h.1 in
      inr (h.0, (base.0, keeps h.0 base.0 base.1, base.2), beneath_extends tables more keeps h.2, strong_minus_grows ps qs pairs_in es fs entries_in u p h.0 h.3)

  pub clash_grows : (s : ℕ) → Clash ps tables es s → Clash qs more fs s
  unfolding Clash
  clash_grows s c = (
    c.0,
    c.1,
    c.2,
    strong_plus_grows ps qs pairs_in es fs entries_in tables more keeps s c.0 c.1 c.3,
    ⊎_elim (λ e. inl e) (λ q. inr (beneath_extends tables more keeps q)) c.4,
    strong_minus_grows ps qs pairs_in es fs entries_in s c.0 c.2 c.5,
  )

  pub clashing_grows : Clashing ps tables es → Clashing qs more fs
  unfolding Clashing
  clashing_grows c = (c.0, clash_grows c.0 c.1)

in_map : {X Y : Type 0} (f : X → Y) (x : X) (xs : List X) → In x xs → In (f x) (map f xs)
in_map f x [] i = absurd i
in_map f x (y ∷ xs) (inl e) = inl (ap f e)
in_map f x (y ∷ xs) (inr i) = inr (in_map f x xs i)

abbrev pub privileges : List Privilege
privileges = Privilege.Select ∷ Privilege.Insert ∷ Privilege.Delete ∷ Privilege.Update ∷ []

in_privileges : (p : Privilege) → In p privileges
in_privileges Privilege.Select = inl refl
in_privileges Privilege.Insert = inr (inl refl)
in_privileges Privilege.Delete = inr (inr (inl refl))
in_privileges Privilege.Update = inr (inr (inr (inl refl)))

module _ (pairs : List Pair) (tables : Tables) (entries : List Entry) where
  -- a strong minus on the table or on anything beneath it
  abbrev pub DeniedBelow : ℕ → Privilege → ℕ → Type 0
  DeniedBelow u p t = (b : ℕ) × AtOrBeneath tables b t × StrongMinus pairs entries u p b

  pub denied_below : (u : ℕ) (p : Privilege) (t : ℕ) → Denied pairs tables entries u p t → DeniedBelow u p t
  unfolding Denied
  denied_below u p t (inl m) = (t, inl refl, m)
  denied_below u p t (inr h) = (h.0, inr h.2, h.3)

  -- a strong minus that is held stands on a base table
  minus_on_base : MinusOnBases tables entries → (u : ℕ) (p : Privilege) (b : ℕ) → StrongMinus pairs entries u p b → IsBase tables b
  unfolding StrongMinus Holds
  minus_on_base bases u p b m = subst (IsBase tables) m.2.0 (bases m.0 m.1 p Strength.Strong m.2.1)

  -- where minuses stand on base tables only, the second rule's tables are those of a clash
  pub below_denied : MinusOnBases tables entries → (u : ℕ) (p : Privilege) (t : ℕ) → DeniedBelow u p t → Denied pairs tables entries u p t
  unfolding Denied
  below_denied bases u p t h = ⊎_elim (λ e. inl (subst (StrongMinus pairs entries u p) e h.2)) (λ q. inr (h.0, minus_on_base bases u p h.0 h.2, q, h.2)) h.1

  -- then a clash is that the first rule and the second both apply
  pub clash_denied : MinusOnBases tables entries → (s : ℕ) → Clash pairs tables entries s → (p : Privilege) × (t : ℕ) × StrongPlus pairs tables entries s p t × Denied pairs tables entries s p t
  unfolding Clash
  clash_denied bases s c = (c.0, c.1, c.3, below_denied bases s c.0 c.1 (c.2, c.4, c.5))

  pub denied_clash : (s : ℕ) (p : Privilege) (t : ℕ) → StrongPlus pairs tables entries s p t → Denied pairs tables entries s p t → Clash pairs tables entries s
  unfolding Clash
  denied_clash s p t plus d = let h = denied_below s p t d in (p, t, h.0, plus, h.1, h.2)

  -- a clash lies at the subject of an entry or at the member of a pair
  abbrev pub candidates : List ℕ
  candidates = map (λ (e : Entry). e.subject) entries ++ map (λ (a : Pair). a.member) pairs

  clash_candidate : (s : ℕ) → Clash pairs tables entries s → In s candidates
  unfolding Clash StrongMinus Holds Below
  clash_candidate s c =
      let m = c.5 in
      ⊎_elim (λ e. in_left s (map (λ (e : Entry). e.subject) entries) (map (λ (a : Pair). a.member) pairs) (subst (λ x. In x (map (λ (e : Entry). e.subject) entries)) (sym e) (in_map (λ (e : Entry). e.subject) m.0 entries m.1)))
      (λ b. in_right s (map (λ (e : Entry). e.subject) entries) (map (λ (a : Pair). a.member) pairs) (in_map (λ (a : Pair). a.member) (pair s b.0) pairs b.1))
      (within_cases pairs s m.0.subject m.3)

  -- e's table has a strong plus of s over f, a strong minus for p
  abbrev Over : ℕ → Privilege → Entry → Entry → Type 0
  Over s p f e = AtOrBeneath tables f.table e.table × StrongPlus pairs tables entries s p e.table

  abbrev Under : Privilege → Entry → ℕ → Type 0
  Under p f s = Within pairs s f.subject × SomeIn (Over s p f) entries

  abbrev Meets : List ℕ → Entry → Privilege → Type 0
  Meets subjects f p = (f.right ≡ Right.Access p Sign.Minus Strength.Strong) × SomeIn (Under p f) subjects

  abbrev Met : List ℕ → Type 0
  Met subjects = SomeIn (λ f. SomeIn (Meets subjects f) privileges) entries

  -- the plus stands on an entry's table: an owned table has nothing beneath it, so the minus is there
  plus_table : (s : ℕ) (p : Privilege) (t : ℕ) (f : Entry) → In f entries → AtOrBeneath tables f.table t → StrongPlus pairs tables entries s p t → SomeIn (Over s p f) entries
  unfolding StrongPlus Holds
  plus_table s p t f i q (inl h) = (h.0, h.1, (subst (AtOrBeneath tables f.table) (sym h.2.0) q, subst (StrongPlus pairs tables entries s p) (sym h.2.0) (inl h)))
  plus_table s p t f i (inl e) (inr o) = (f, i, (inl refl, subst (StrongPlus pairs tables entries s p) (sym e) (inr o)))
  plus_table s p t f i (inr q) (inr o) = absurd (beneath_base tables f.table t o.0 q)

  clash_met : (subjects : List ℕ) → SomeIn (Clash pairs tables entries) subjects → Met subjects
  unfolding Clash StrongMinus Holds
  clash_met subjects h =
      let c = h.2 in
      let m = c.5 in
      let q = subst (λ b. AtOrBeneath tables b c.1) (sym m.2.0) c.4 in
      (m.0, m.1, (c.0, in_privileges c.0, (m.2.1, (h.0, h.1, (m.3, plus_table h.0 c.0 c.1 m.0 m.1 q c.3)))))

  met_clash : (subjects : List ℕ) → Met subjects → SomeIn (Clash pairs tables entries) subjects
  unfolding Clash StrongMinus Holds
  met_clash subjects h =
      let f = h.0 in
      let p = h.2.0 in
      let k = h.2.2 in
      let s = k.1.0 in
      let e = k.1.2.1 in
      (s, k.1.1, (p, e.0.table, f.table, e.2.1, e.2.0, (f, h.1, (refl, k.0), k.1.2.0)))

  module _ (height : ℕ → ℕ) where
    abbrev over_test : ℕ → Privilege → Entry → Entry → Bool
    over_test s p f e =
        let beneath = beneath_test tables (height e.table) f.table e.table in
        let plus = strong_plus_test pairs tables entries s p e.table in
        (eqb f.table e.table || beneath) && plus

    abbrev under_test : Privilege → Entry → ℕ → Bool
    under_test p f s = let over = list_any (over_test s p f) entries in within_test pairs s f.subject && over

    abbrev meets_test : List ℕ → Entry → Privilege → Bool
    meets_test subjects f p = let under = list_any (under_test p f) subjects in same_right f.right (Right.Access p Sign.Minus Strength.Strong) && under

    -- some of these subjects is a clash
    abbrev pub clash_test : List ℕ → Bool
    clash_test subjects = list_any (λ f. list_any (meets_test subjects f) privileges) entries

    module _ (low : (t : ℕ) → Low tables (height t) t) where
      decides_over : (s : ℕ) (p : Privilege) (f e : Entry) → Decides (over_test s p f e) (Over s p f e)
      decides_over s p f e = Decides-and _ _
          (Decides-or _ _ (Decides-eqb f.table e.table) (decides_beneath tables (height e.table) f.table e.table (low e.table)))
          (decides_strong_plus pairs tables entries s p e.table)

      decides_under : (p : Privilege) (f : Entry) (s : ℕ) → Decides (under_test p f s) (Under p f s)
      decides_under p f s = Decides-and _ _ (decides_within pairs s f.subject) (decides_some (Over s p f) (over_test s p f) entries (λ e _. decides_over s p f e))

      decides_meets : (subjects : List ℕ) (f : Entry) (p : Privilege) → Decides (meets_test subjects f p) (Meets subjects f p)
      decides_meets subjects f p = Decides-and _ _
          (decides_same_right f.right (Right.Access p Sign.Minus Strength.Strong)) (decides_some (Under p f) (under_test p f) subjects (λ s _. decides_under p f s))

      pub decides_clash : (subjects : List ℕ) → Decides (clash_test subjects) (SomeIn (Clash pairs tables entries) subjects)
      decides_clash subjects = Decides-like _ (met_clash subjects) (clash_met subjects)
          (decides_some (λ f. SomeIn (Meets subjects f) privileges) (λ f. list_any (meets_test subjects f) privileges) entries
          (λ f _. decides_some (Meets subjects f) (meets_test subjects f) privileges (λ p _. decides_meets subjects f p)))

      pub decides_clashing : Decides (clash_test candidates) (Clashing pairs tables entries)
      unfolding Clashing
      decides_clashing = Decides-like _ (λ h. (h.0, h.2)) (λ c. (c.0, clash_candidate c.0 c.1, c.1)) (decides_clash candidates)

  pub clashing_or_not : Levelled tables → Clashing pairs tables entries ⊎ (Clashing pairs tables entries → ⊥)
  clashing_or_not levels = either_way (clash_test (λ t. (levels_of tables levels t).0) candidates) (decides_clashing (λ t. (levels_of tables levels t).0) (λ t. (levels_of tables levels t).1))
