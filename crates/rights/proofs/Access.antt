-- The laws of access: weak entries reach along the pairs that are not blocked, tests decide each rule,
-- every question has exactly one answer, and the rules give yes exactly where that answer is a yes.
use Rattle.std.proofs.Common.{◌≡◌, ℕ, zero, suc, Bool, true, false, cond, not, ◌&&◌, ◌||◌, ◌⊎◌, List, [], ◌∷◌, Some, Decides, sym, refl, subst, inl, inr, ⊎_elim, arith}
use Rattle.std.specs.List.{filter, list_all, list_any}
use Rattle.std.proofs.lemmas.Bool.Decides.{Decides-and, Decides-or, Decides-not, Decides-like}
use Rattle.std.proofs.lemmas.Option.{same_Some}
use Rattle.rights.specs.declared.commands.Answer.{Answer}
use Rattle.rights.specs.declared.commands.Ground.{Ground}
use Rattle.rights.specs.declared.entries.Entry.{Entry}
use Rattle.rights.specs.declared.entries.Pair.{Pair}
use Rattle.rights.specs.declared.vocabulary.Privilege.{Privilege}
use Rattle.rights.specs.declared.vocabulary.Sign.{Sign}
use Rattle.rights.specs.declared.vocabulary.Strength.{Strength}
use Rattle.rights.specs.Access.{ButLast, other, WeakAt, Applies, Denied, Weakly, Granted, strongly, weakly, by_names, ByNames, rules, Answers}
use Rattle.rights.specs.Checks.{First}
use Rattle.rights.specs.Holding.{Holds, StrongPlus, StrongMinus}
use Rattle.rights.specs.Lists.{In}
use Rattle.rights.specs.Pairs.{pair}
use Rattle.rights.specs.Tables.{Tables, IsBase, IsView, Names, Beneath, Levelled}
use Rattle.rights.specs.Within.{Path, here, step, Within}
use Rattle.rights.proofs.Checks.{first_unique, first_decided}
use Rattle.rights.proofs.Deciding.{in_filter, filter_in, decides_some, decides_each, decided_yes, decided_no, either_way}
use Rattle.rights.proofs.Grounds.{Says, answers_says, says_answers}
use Rattle.rights.proofs.Holding.{holds_test, strong_plus_test, strong_minus_test, weak_at_test, decides_holds, decides_strong_plus, decides_strong_minus, decides_weak_at}
use Rattle.rights.proofs.Tables.{Low, base_test, view_test, owns_test, beneath_test, names_of, decides_base, decides_view, decides_owns, decides_beneath, names_in, in_names, low_named, low_names_none, levels_of}
use Rattle.rights.proofs.Within.{within_refl, within_step, within_back}

-- a path with the property at every subject but the last is a path along the pairs whose member has it
module _ (pairs : List Pair) (P : ℕ → Type 0) (f : ℕ → Bool) (d : (s : ℕ) → Decides (f s) (P s)) where
  abbrev pub pairs_from : List Pair
  pairs_from = filter (λ a. f a.member) pairs

  pub along_within : {u s : ℕ} {l : List ℕ} → Path pairs u s l → ButLast P l → Within pairs_from u s
  along_within (here {s}) b = within_refl pairs_from s
  along_within (step {m} {h} {g} i here) b = within_step pairs_from m h g (in_filter (λ a. f a.member) pairs (pair m h) i ((d m).1 b.0)) (within_refl pairs_from h)
  along_within (step {m} {h} {g} i (step j q)) b = within_step pairs_from m h g (in_filter (λ a. f a.member) pairs (pair m h) i ((d m).1 b.0)) (along_within (step j q) b.1)

  -- some path leads from u to s with the property before its end
  abbrev pub Along : ℕ → ℕ → Type 0
  Along u s = (l : List ℕ) × Path pairs u s l × ButLast P l

  but_last_more : {h g : ℕ} {l : List ℕ} (m : ℕ) → Path pairs h g l → P m → ButLast P l → ButLast P (m ∷ l)
  but_last_more m here p b = (p, tt)
  but_last_more m (step i q) p b = (p, b)

  pub within_along : (u s : ℕ) → Within pairs_from u s → Along u s
  within_along u s w = within_back pairs_from (λ x. Along x s) pass u s w (s ∷ [], here, tt)
    where
      pass : (m h : ℕ) → In (pair m h) pairs_from → Along h s → Along m s
      pass m h i a = let k = filter_in (λ a. f a.member) pairs (pair m h) i in (m ∷ a.0, step k.0 a.1, but_last_more m a.1 ((d m).0 k.1) a.2)

module _ (pairs : List Pair) (tables : Tables) (entries : List Entry) where
  -- the pairs whose member has no weak entry of the other sign itself
  abbrev pub unblocked : Privilege → Sign → ℕ → List Pair
  unblocked p sign t = filter (λ a. not (weak_at_test pairs tables entries p (other sign) t a.member)) pairs

  unblocked_decides : (p : Privilege) (sign : Sign) (t s : ℕ) → Decides (not (weak_at_test pairs tables entries p (other sign) t s)) (WeakAt pairs tables entries p (other sign) t s → ⊥)
  unblocked_decides p sign t s = Decides-not _ (decides_weak_at pairs tables entries p (other sign) t s)

  -- a weak entry applies exactly if it is held along those pairs
  pub applies_holds : (u : ℕ) (p : Privilege) (sign : Sign) (t : ℕ) → Applies pairs tables entries u p sign t → Holds (unblocked p sign t) entries u p sign t Strength.Weak
  unfolding Applies WeakAt Holds
  applies_holds u p sign t a =
      let e = a.2 in
      let w = along_within pairs (λ x. WeakAt pairs tables entries p (other sign) t x → ⊥) (λ s. not (weak_at_test pairs tables entries p (other sign) t s)) (unblocked_decides p sign t) a.3 a.4 in
      (e.0, e.1, e.2, subst (Within (unblocked p sign t) u) (sym e.3) w)

  pub holds_applies : (u : ℕ) (p : Privilege) (sign : Sign) (t : ℕ) → Holds (unblocked p sign t) entries u p sign t Strength.Weak → Applies pairs tables entries u p sign t
  unfolding Applies WeakAt Holds
  holds_applies u p sign t h =
      let a = within_along pairs (λ x. WeakAt pairs tables entries p (other sign) t x → ⊥) (λ s. not (weak_at_test pairs tables entries p (other sign) t s)) (unblocked_decides p sign t) u h.0.subject h.3 in
      (h.0.subject, a.0, (h.0, h.1, h.2, refl), a.1, a.2)

  abbrev pub applies_test : ℕ → Privilege → Sign → ℕ → Bool
  applies_test u p sign t = holds_test (unblocked p sign t) entries u p sign t Strength.Weak

  pub decides_applies : (u : ℕ) (p : Privilege) (sign : Sign) (t : ℕ) → Decides (applies_test u p sign t) (Applies pairs tables entries u p sign t)
  decides_applies u p sign t = Decides-like _ (holds_applies u p sign t) (applies_holds u p sign t) (decides_holds (unblocked p sign t) entries u p sign t Strength.Weak)

  abbrev pub weakly_test : ℕ → Privilege → ℕ → Bool
  weakly_test u p t = let minus = applies_test u p Sign.Minus t in applies_test u p Sign.Plus t && not minus

  pub decides_weakly : (u : ℕ) (p : Privilege) (t : ℕ) → Decides (weakly_test u p t) (Weakly pairs tables entries u p t)
  unfolding Weakly
  decides_weakly u p t = Decides-and _ _ (decides_applies u p Sign.Plus t) (Decides-not _ (decides_applies u p Sign.Minus t))

  -- a base table beneath t with a strong minus is the table of an entry
  abbrev pub denied_by_test : ℕ → ℕ → Privilege → ℕ → ℕ → Bool
  denied_by_test n u p t b =
      let held = strong_minus_test pairs entries u p b in
      let beneath = beneath_test tables n b t && held in
      base_test tables b && beneath

  abbrev pub denied_test : ℕ → ℕ → Privilege → ℕ → Bool
  denied_test n u p t = let deep = list_any (λ e. denied_by_test n u p t e.table) entries in strong_minus_test pairs entries u p t || deep

  pub decides_denied : (n u : ℕ) (p : Privilege) (t : ℕ) → Low tables n t → Decides (denied_test n u p t) (Denied pairs tables entries u p t)
  unfolding Denied StrongMinus Holds
  decides_denied n u p t low = Decides-or _ _ (decides_strong_minus pairs entries u p t)
      (Decides-like _
      (λ h. (h.0.table, h.2.0, h.2.1.0, h.2.1.1))
      (λ h. let m = h.3 in (m.0, m.1, subst At (sym m.2.0) (h.1, (h.2, h.3))))
      (decides_some (λ e. At e.table) (λ e. denied_by_test n u p t e.table) entries (λ e _. one e.table)))
    where
      At : ℕ → Type 0
      At b = IsBase tables b × (Beneath tables b t × StrongMinus pairs entries u p b)

      one : (b : ℕ) → Decides (denied_by_test n u p t b) (At b)
      one b = Decides-and _ _ (decides_base tables b)
          (Decides-and _ _ (decides_beneath tables n b t low) (decides_strong_minus pairs entries u p b))

  -- the rules give yes: strongly, or without a denial weakly or by the tables named
  abbrev GivesYes : ℕ → Privilege → ℕ → Type 0
  GivesYes u p t = StrongPlus pairs tables entries u p t ⊎ ((Denied pairs tables entries u p t → ⊥) × (Weakly pairs tables entries u p t ⊎ ByNames pairs tables entries u p t))

  granted_yes : {u : ℕ} {p : Privilege} {t : ℕ} → Granted pairs tables entries u p t → GivesYes u p t
  unfolding ByNames
  granted_yes (strongly h) = inl h
  granted_yes (weakly n w) = inr (n, inl w)
  granted_yes (by_names n v o d) = inr (n, inr (v, o, d))

  yes_granted : (u : ℕ) (p : Privilege) (t : ℕ) → GivesYes u p t → Granted pairs tables entries u p t
  unfolding ByNames
  yes_granted u p t (inl h) = strongly h
  yes_granted u p t (inr k) = ⊎_elim (λ w. weakly k.0 w) (λ b. by_names k.0 b.0 b.1 b.2) k.1

  -- the rules' yes on t, by the tables named or not as the last test says
  abbrev pub yes_test : ℕ → ℕ → Privilege → ℕ → Bool → Bool
  yes_test n u p t b = let more = not (denied_test n u p t) && (weakly_test u p t || b) in strong_plus_test pairs tables entries u p t || more

  pub decides_yes : (n u : ℕ) (p : Privilege) (t : ℕ) (b : Bool) → Low tables n t → Decides b (ByNames pairs tables entries u p t) → Decides (yes_test n u p t b) (Granted pairs tables entries u p t)
  decides_yes n u p t b low k = Decides-like _ (yes_granted u p t) granted_yes
      (Decides-or _ _ (decides_strong_plus pairs tables entries u p t)
      (Decides-and _ _ (Decides-not _ (decides_denied n u p t low))
      (Decides-or _ _ (decides_weakly u p t) k)))

  abbrev pub by_names_test : ℕ → ℕ → Privilege → ℕ → Bool
  by_names_test zero u p t = false
  by_names_test (suc n) u p t =
      let all = list_all (λ d. yes_test n u p d (by_names_test n u p d)) (names_of (tables t)) in
      view_test tables t && (owns_test tables u t && all)

  abbrev pub granted_test : ℕ → ℕ → Privilege → ℕ → Bool
  granted_test n u p t = yes_test n u p t (by_names_test n u p t)

  -- a view names some table
  view_names : (t : ℕ) → IsView tables t → (d : ℕ) × Names tables t d
  view_names t v = by v.0.names refl
    where
      by : (ds : List ℕ) → v.0.names ≡ ds → (d : ℕ) × Names tables t d
      by [] e = absurd (v.2 e)
      by (d ∷ ds) e = (d, (v.0, v.1, subst (In d) (sym e) (inl refl)))

  pub decides_by_names : (n u : ℕ) (p : Privilege) (t : ℕ) → Low tables n t → Decides (by_names_test n u p t) (ByNames pairs tables entries u p t)
  unfolding ByNames
  decides_by_names zero u p t low = decided_no (λ h. let d = view_names t h.0 in low_names_none tables t d.0 low d.1)
  decides_by_names (suc n) u p t low = Decides-like _
      (λ h. (h.0, h.1.0, λ d i. h.1.1 d (names_in tables t d i)))
      (λ h. (h.0, (h.1, λ d i. h.2 d (in_names tables t d i))))
      (Decides-and _ _ (decides_view tables t)
      (Decides-and _ _ (decides_owns tables u t)
      (decides_each (Granted pairs tables entries u p) (λ d. yes_test n u p d (by_names_test n u p d)) (names_of (tables t))
      (λ d i. let l = low_named tables n t d low (in_names tables t d i) in decides_yes n u p d (by_names_test n u p d) l (decides_by_names n u p d l)))))

  pub decides_granted : (n u : ℕ) (p : Privilege) (t : ℕ) → Low tables n t → Decides (granted_test n u p t) (Granted pairs tables entries u p t)
  decides_granted n u p t low = decides_yes n u p t (by_names_test n u p t) low (decides_by_names n u p t low)

  -- two answers to one question are equal
  pub answers_unique : (u : ℕ) (p : Privilege) (t : ℕ) (a b : Answer) → Answers pairs tables entries u p t a → Answers pairs tables entries u p t b → a ≡ b
  unfolding Answers
  answers_unique u p t a b h k = same_Some a b (first_unique (rules pairs tables entries u p t) (Some a) (Some b) h k)

  -- the answer by the tests
  abbrev pub answer : ℕ → ℕ → Privilege → ℕ → Answer
  answer n u p t =
      let fourth = cond (by_names_test n u p t) (Answer.Yes Ground.Named) (Answer.No Ground.Nothing) in
      let third = cond (weakly_test u p t) (Answer.Yes Ground.Weak) fourth in
      let second = cond (denied_test n u p t) (Answer.No Ground.Strong) third in
      cond (strong_plus_test pairs tables entries u p t) (Answer.Yes Ground.Strong) second

  pub answers : (n u : ℕ) (p : Privilege) (t : ℕ) → Low tables n t → Answers pairs tables entries u p t (answer n u p t)
  unfolding Answers rules
  answers n u p t low = subst (First (rules pairs tables entries u p t)) (settled (strong_plus_test pairs tables entries u p t) (denied_test n u p t) (weakly_test u p t) (by_names_test n u p t))
      (first_decided (rules pairs tables entries u p t) (strong_plus_test pairs tables entries u p t ∷ denied_test n u p t ∷ weakly_test u p t ∷ by_names_test n u p t ∷ true ∷ [])
      (decides_strong_plus pairs tables entries u p t, (decides_denied n u p t low, (decides_weakly u p t, (decides_by_names n u p t low, (decided_yes tt, tt))))))
    where
      settled : (b c d e : Bool) → cond b (Some (Answer.Yes Ground.Strong)) (cond c (Some (Answer.No Ground.Strong)) (cond d (Some (Answer.Yes Ground.Weak)) (cond e (Some (Answer.Yes Ground.Named)) (Some (Answer.No Ground.Nothing)))))
          ≡ Some (cond b (Answer.Yes Ground.Strong) (cond c (Answer.No Ground.Strong) (cond d (Answer.Yes Ground.Weak) (cond e (Answer.Yes Ground.Named) (Answer.No Ground.Nothing)))))
      settled b c d e = grind arith

  -- where every table has a level, every question has an answer
  pub answered : Levelled tables → (u : ℕ) (p : Privilege) (t : ℕ) → (a : Answer) × Answers pairs tables entries u p t a
  answered levels u p t = let l = levels_of tables levels t in (answer l.0 u p t, answers l.0 u p t l.1)

  -- the rules give yes exactly where the answer is a yes, of some ground
  pub granted_answer : {u : ℕ} {p : Privilege} {t : ℕ} → Granted pairs tables entries u p t → (g : Ground) × Answers pairs tables entries u p t (Answer.Yes g)
  granted_answer {u} {p} {t} h = by (granted_yes h) (either_way (strong_plus_test pairs tables entries u p t) (decides_strong_plus pairs tables entries u p t)) (either_way (weakly_test u p t) (decides_weakly u p t))
    where
      Plus : Type 0
      Plus = StrongPlus pairs tables entries u p t

      Weak : Type 0
      Weak = Weakly pairs tables entries u p t

      yes : (g : Ground) → Says pairs tables entries u p t (Answer.Yes g) → (g : Ground) × Answers pairs tables entries u p t (Answer.Yes g)
      yes g s = (g, says_answers pairs tables entries u p t (Answer.Yes g) s)

      by : GivesYes u p t → Plus ⊎ (Plus → ⊥) → Weak ⊎ (Weak → ⊥) → (g : Ground) × Answers pairs tables entries u p t (Answer.Yes g)
      by h (inl s) w = yes Ground.Strong s
      by (inl s) (inr n) w = absurd (n s)
      by (inr k) (inr n) (inl w) = yes Ground.Weak ((n, k.0), w)
      by (inr k) (inr n) (inr m) = yes Ground.Named ((n, k.0), m, ⊎_elim (λ w. absurd (m w)) (λ b. b) k.1)

  pub answer_granted : (u : ℕ) (p : Privilege) (t : ℕ) (g : Ground) → Answers pairs tables entries u p t (Answer.Yes g) → Granted pairs tables entries u p t
  answer_granted u p t g h = by g (answers_says pairs tables entries u p t (Answer.Yes g) h)
    where
      by : (g : Ground) → Says pairs tables entries u p t (Answer.Yes g) → Granted pairs tables entries u p t
      by Ground.Nothing s = absurd s
      by Ground.Strong s = yes_granted u p t (inl s)
      by Ground.Weak s = yes_granted u p t (inr (s.0.1, inl s.1))
      by Ground.Named s = yes_granted u p t (inr (s.0.1, inr s.2))

  pub granted_or_not : Levelled tables → (u : ℕ) (p : Privilege) (t : ℕ) → Granted pairs tables entries u p t ⊎ (Granted pairs tables entries u p t → ⊥)
  granted_or_not levels u p t = let l = levels_of tables levels t in either_way (granted_test l.0 u p t) (decides_granted l.0 u p t l.1)
