-- Every condition of every list of refusals has a test that decides it, in a history of which the numbers
-- are in their ranges and the tables have levels of at most 7.
use Rattle.std.proofs.Common.{◌≡◌, ℕ, zero, suc, ◌+◌, ◌<◌, ◌≤◌, max, Bool, true, false, not, ◌&&◌, ◌||◌, ◌⊎◌, eqb, ltb, leb, List, [], ◌∷◌, length, Some, Decides, Option, refl, ap, inl, inr, arith}
use Rattle.std.specs.List.{list_all, list_any}
use Rattle.std.specs.Option.{is_some}
use Rattle.std.proofs.lemmas.Bool.Decides.{Decides-eqb, Decides-ltb, Decides-and, Decides-or, Decides-not, Decides-like}
use Rattle.rights.specs.declared.commands.Command.{Command}
use Rattle.rights.specs.declared.commands.State.{State}
use Rattle.rights.specs.declared.entries.Entry.{Entry}
use Rattle.rights.specs.declared.faults.RegisterFault.{RegisterFault}
use Rattle.rights.specs.declared.records.Subject.{Subject}
use Rattle.rights.specs.Checks.{Check, First}
use Rattle.rights.specs.Entries.{Before, same_entry}
use Rattle.rights.specs.History.{History}
use Rattle.rights.specs.Lists.{In, Rising}
use Rattle.rights.specs.Numbers.{IssuerNumber, SubjectNumber}
use Rattle.rights.specs.Pairs.{pair, Before as PairBefore}
use Rattle.rights.specs.Read.{access_entry, admin_entry, tables_in}
use Rattle.rights.specs.Refusals.{Lent, Turn, preparing, working, asking, InTurn, StrangeIssuer, NoMark, WellMade, user_checks, group_checks, open_checks, base_checks, view_checks, drop_checks, admit_checks, remove_checks, grant_checks, give_checks, lend_checks, revoke_checks, may_checks, checks}
use Rattle.rights.specs.Subjects.{Subjects, Registered, IsPerson, IsGroup}
use Rattle.rights.specs.Tables.{Table, Tables, Stands, Names, Level, level, LevelOver, over_none, over_more}
use Rattle.rights.proofs.Checks.{Decided, first_of, first_decided}
use Rattle.rights.proofs.Clash.{candidates, clash_test, decides_clashing}
use Rattle.rights.proofs.Cover.{supported_test, decides_supported}
use Rattle.rights.proofs.Deciding.{decided_yes, decided_no, decides_is_some, passes, decides_passes, decides_leb, decides_and_3, decides_and_4, decides_all, decides_each, some_below, decides_below}
use Rattle.rights.proofs.Holding.{same_pair, decides_entry_in, decides_pair_in}
use Rattle.rights.proofs.Tables.{Low, over_lower, view_test, decides_view, owns_test, decides_owns, names_test, decides_names}
use Rattle.rights.proofs.Within.{within_test, decides_within}

-- what is registered
abbrev pub person_test : Option Subject → Bool
person_test (Some (Subject.Person mark)) = true
person_test _ = false

abbrev pub group_test : Option Subject → Bool
group_test (Some Subject.Group) = true
group_test _ = false

abbrev pub creator_test : Option Subject → Bool
creator_test (Some (Subject.Person mark)) = mark
creator_test _ = false

decides_person : (o : Option Subject) → Decides (person_test o) ((mark : Bool) × (o ≡ Some (Subject.Person mark)))
decides_person (Some (Subject.Person mark)) = decided_yes (mark, refl)
decides_person _ = decided_no (λ h. cc (h.1))

decides_group : (o : Option Subject) → Decides (group_test o) (o ≡ Some Subject.Group)
decides_group (Some Subject.Group) = decided_yes refl
decides_group _ = decided_no (λ h. cc)

decides_creator : (o : Option Subject) → Decides (creator_test o) (o ≡ Some (Subject.Person true))
decides_creator (Some (Subject.Person mark)) = (λ e. ap (λ b. Some (Subject.Person b)) e, λ h. cc)
decides_creator _ = decided_no (λ h. cc)

-- numbers in their ranges
abbrev pub subject_number_test : ℕ → Bool
subject_number_test s = leb 1 s && leb s 255

decides_subject_number : (s : ℕ) → Decides (subject_number_test s) ((1 ≤ s) × (s ≤ 255))
decides_subject_number s = Decides-and _ _ (decides_leb 1 s) (decides_leb s 255)

module _ (subjects : Subjects) where
  abbrev pub strange_test : ℕ → Bool
  strange_test i = not (eqb i 0) && not (person_test (subjects i))

  decides_strange : (i : ℕ) → Decides (strange_test i) (StrangeIssuer subjects i)
  decides_strange i = Decides-and _ _ (Decides-not _ (Decides-eqb i 0)) (Decides-not _ (decides_person (subjects i)))

  abbrev pub no_mark_test : ℕ → Bool
  no_mark_test i = eqb i 0 || not (creator_test (subjects i))

  decides_no_mark : (i : ℕ) → Decides (no_mark_test i) (NoMark subjects i)
  decides_no_mark i = Decides-or _ _ (Decides-eqb i 0) (Decides-not _ (decides_creator (subjects i)))

abbrev pub rising_test : List ℕ → Bool
rising_test [] = true
rising_test (d ∷ ds) = list_all (λ c. ltb d c) ds && rising_test ds

decides_rising : (ds : List ℕ) → Decides (rising_test ds) (Rising ◌<◌ ds)
decides_rising [] = decided_yes tt
decides_rising (d ∷ ds) = Decides-and _ _ (decides_all (λ c. d < c) (λ c. ltb d c) ds (λ c _. Decides-ltb d c)) (decides_rising ds)

-- levels
module _ (tables : Tables) where
  abbrev pub stands_test : ℕ → Bool
  stands_test t = is_some (tables t)

  decides_stands : (t : ℕ) → Decides (stands_test t) (Stands tables t)
  decides_stands t = decides_is_some (tables t)

  abbrev LevelUnder : ℕ → ℕ → Type 0
  LevelUnder n t = (k : ℕ) × Level tables t k × (k < n)

  abbrev OverAtMost : ℕ → List ℕ → Type 0
  OverAtMost n ds = (k : ℕ) × LevelOver tables ds k × (k ≤ n)

  over_each : {ds : List ℕ} {k : ℕ} → LevelOver tables ds k → (n : ℕ) → k ≤ n → (d : ℕ) → In d ds → LevelUnder n d
  over_each over n h d i = let l = over_lower tables over d i in let lt = l.2 in (l.0, l.1, omega arith)

  each_over : (n : ℕ) (ds : List ℕ) → ((d : ℕ) → In d ds → LevelUnder n d) → OverAtMost n ds
  each_over n [] h = (0, over_none, omega arith)
  each_over n (d ∷ ds) h =
      let a = h d (inl refl) in
      let b = each_over n ds (λ c i. h c (inr i)) in
      let lt = a.2 in
      let le = b.2 in
      (max (a.0 + 1) b.0, over_more a.1 b.1, omega arith)

  -- the table stands, and every table that it names has a level below n
  abbrev pub level_test : ℕ → ℕ → Bool
  level_test zero t = false
  level_test (suc n) t = passes (λ r. list_all (λ d. level_test n d) r.names) (tables t)

  decides_level : (n t : ℕ) → Decides (level_test n t) (LevelUnder n t)
  decides_level zero t = decided_no (λ h. let lt = h.2 in omega arith)
  decides_level (suc n) t =
      Decides-like _ out (λ h. back h.1 h.2)
      (decides_passes (λ r. (d : ℕ) → In d r.names → LevelUnder n d) (λ r. list_all (λ d. level_test n d) r.names) (tables t) (λ r _. decides_each (λ d. LevelUnder n d) (λ d. level_test n d) r.names (λ d _. decides_level n d)))
    where
      Stood : Type 0
      Stood = (r : Table) × (tables t ≡ Some r) × ((d : ℕ) → In d r.names → LevelUnder n d)

      out : Stood → LevelUnder (suc n) t
      out h = let o = each_over n h.0.names h.2 in let le = o.2 in (o.0, level h.1 o.1, omega arith)

      back : {k : ℕ} → Level tables t k → k < suc n → Stood
      back (level {r = r} e over) lt = (r, e, over_each over n (omega arith))

  decides_over : (n : ℕ) (ds : List ℕ) → Decides (list_all (λ d. level_test n d) ds) (OverAtMost n ds)
  decides_over n ds = Decides-like _ (each_over n ds) (λ h. over_each h.1 n h.2) (decides_each (λ d. LevelUnder n d) (λ d. level_test n d) ds (λ d _. decides_level n d))

  abbrev pub well_made_test : List ℕ → Bool
  well_made_test ds = leb 1 (length ds) && (leb (length ds) 8 && (rising_test ds && list_all (λ d. level_test 7 d) ds))

  pub decides_well_made : (ds : List ℕ) → Decides (well_made_test ds) (WellMade tables ds)
  unfolding WellMade
  decides_well_made ds = decides_and_4 _ _ _ _ (decides_leb 1 (length ds)) (decides_leb (length ds) 8) (decides_rising ds) (decides_over 7 ds)

-- what the tests need: numbers in their ranges, tables of level at most 7, rising lists
pub record Sound (h : History) : Type 0 where
  pub low : (t : ℕ) → Low h.tables 7 t
  pub few_subjects : (n : ℕ) → Registered h.subjects n → n ≤ 255
  pub few_tables : (t : ℕ) → Stands h.tables t → t ≤ 127
  pub pairs_rise : Rising PairBefore h.pairs
  pub entries_rise : Rising Before h.entries

module _ (lent : Lent) (h : History) where
  abbrev pub grant_tests : (Option Subject → Bool) → Bool → ℕ → ℕ → ℕ → List Bool → List Bool
  grant_tests recipient in_range i s t more =
      not (leb i 255 && (subject_number_test s && (leb t 127 && in_range))) ∷
      (strange_test h.subjects i || not (recipient (h.subjects s))) ∷
      not (stands_test h.tables t) ∷
      eqb i 0 ∷
      more

  abbrev pub full_test : Bool
  full_test = eqb (length h.entries) lent.book_ceiling

  abbrev pub access_range : ℕ → ℕ → ℕ → Bool
  access_range p a b = leb p 3 && (leb a 1 && leb b 1)

  abbrev pub revoke_tests : (Option Subject → Bool) → Bool → ℕ → ℕ → ℕ → Entry → List Bool
  revoke_tests recipient in_range i s t e =
      ltb lent.slate 4096 ∷ ltb lent.list (length h.entries) ∷ grant_tests recipient in_range i s t (not (list_any (same_entry e) h.entries) ∷ [])

  abbrev pub pair_tests : ℕ → ℕ → ℕ → List Bool → List Bool
  pair_tests i m g more =
      not (leb i 255 && (subject_number_test m && subject_number_test g)) ∷
      (strange_test h.subjects i || (not (is_some (h.subjects m)) || not (group_test (h.subjects g)))) ∷
      not (eqb i 0) ∷
      more

  -- a test for each check of the command's list
  abbrev pub tests : Command → List Bool
  tests (Command.User n c) = not (subject_number_test n && leb c 1) ∷ is_some (h.subjects n) ∷ []
  tests (Command.Group n) = not (subject_number_test n) ∷ is_some (h.subjects n) ∷ []
  tests Command.Open = not (some_below (λ n. person_test (h.subjects n)) 256) ∷ []
  tests Command.Close = []
  tests (Command.Admit i m g) =
      pair_tests i m g (
      list_any (same_pair (pair m g)) h.pairs ∷
      within_test h.pairs g m ∷
      eqb (length h.pairs) lent.roll_ceiling ∷
      clash_test (pair m g ∷ h.pairs) h.tables h.entries (λ t. 7) (candidates (pair m g ∷ h.pairs) h.tables h.entries) ∷
      [])
  tests (Command.Remove i m g) = pair_tests i m g (not (list_any (same_pair (pair m g)) h.pairs) ∷ [])
  tests (Command.Base i t) = not (leb i 255 && leb t 127) ∷ strange_test h.subjects i ∷ no_mark_test h.subjects i ∷ stands_test h.tables t ∷ []
  tests (Command.View i t d) =
      not (leb i 255 && (leb t 127 && list_all (λ c. leb c 127) (tables_in d))) ∷
      strange_test h.subjects i ∷
      not (list_all (stands_test h.tables) (tables_in d)) ∷
      no_mark_test h.subjects i ∷
      stands_test h.tables t ∷
      not (well_made_test h.tables (tables_in d)) ∷
      []
  tests (Command.Drop i t) =
      not (leb i 255 && leb t 127) ∷
      strange_test h.subjects i ∷
      not (stands_test h.tables t) ∷
      (eqb i 0 || not (owns_test h.tables i t)) ∷
      some_below (λ v. names_test h.tables v t) 128 ∷
      []
  tests (Command.Give i s p sign t strength) =
      let e = access_entry i s p sign t strength in
      grant_tests is_some (access_range p sign strength) i s t (
      list_any (same_entry e) h.entries ∷
      not (supported_test h.tables 7 h.entries e) ∷
      (eqb sign 1 && view_test h.tables t) ∷
      full_test ∷
      clash_test h.pairs h.tables (e ∷ h.entries) (λ t. 7) (candidates h.pairs h.tables (e ∷ h.entries)) ∷
      [])
  tests (Command.Ungive i s p sign t strength) = revoke_tests is_some (access_range p sign strength) i s t (access_entry i s p sign t strength)
  tests (Command.Lend i s p t kind rank) =
      let e = admin_entry i s p t kind rank in
      grant_tests person_test (access_range p kind rank) i s t (list_any (same_entry e) h.entries ∷ not (supported_test h.tables 7 h.entries e) ∷ full_test ∷ [])
  tests (Command.Unlend i s p t kind rank) = revoke_tests person_test (access_range p kind rank) i s t (admin_entry i s p t kind rank)
  tests (Command.May u p t) =
      ltb lent.slate 4096 ∷
      not (subject_number_test u && (leb p 3 && leb t 127)) ∷
      not (person_test (h.subjects u)) ∷
      not (stands_test h.tables t) ∷
      []

  -- tests for grants, over those for what follows
  decides_grant : (Recipient : Subjects → ℕ → Type 0) (recipient : Option Subject → Bool) → ((s : ℕ) → Decides (recipient (h.subjects s)) (Recipient h.subjects s)) → (InRange : Type 0) (in_range : Bool) → Decides in_range InRange → (i s t : ℕ) (cs : List (Check RegisterFault)) (bs : List Bool) → Decided cs bs → Decided (grant_checks lent h Recipient InRange i s t cs) (grant_tests recipient in_range i s t bs)
  unfolding grant_checks
  decides_grant Recipient recipient d InRange in_range r i s t cs bs rest = (
    Decides-not _ (decides_and_4 _ _ _ _ (decides_leb i 255) (decides_subject_number s) (decides_leb t 127) r),
    (
      Decides-or _ _ (decides_strange h.subjects i) (Decides-not _ (d s)),
      (
        Decides-not _ (decides_stands h.tables t),
        (
          Decides-eqb i 0,
          rest,
        ),
      ),
    ),
  )

  decides_revoke : (Recipient : Subjects → ℕ → Type 0) (recipient : Option Subject → Bool) → ((s : ℕ) → Decides (recipient (h.subjects s)) (Recipient h.subjects s)) → (InRange : Type 0) (in_range : Bool) → Decides in_range InRange → (i s t : ℕ) (e : Entry) → Decided (revoke_checks lent h Recipient InRange i s t e) (revoke_tests recipient in_range i s t e)
  unfolding revoke_checks
  decides_revoke Recipient recipient d InRange in_range r i s t e = (
    Decides-ltb lent.slate 4096,
    (
      Decides-ltb lent.list (length h.entries),
      decides_grant Recipient recipient d InRange in_range r i s t _ _ (Decides-not _ (decides_entry_in e h.entries), tt),
    ),
  )

  -- tests for pairs
  decides_numbers : (i m g : ℕ) → Decides (leb i 255 && (subject_number_test m && subject_number_test g)) (IssuerNumber i × SubjectNumber m × SubjectNumber g)
  decides_numbers i m g = decides_and_3 _ _ _ (decides_leb i 255) (decides_subject_number m) (decides_subject_number g)

  decides_strangers : (i m g : ℕ) → Decides (strange_test h.subjects i || (not (is_some (h.subjects m)) || not (group_test (h.subjects g)))) (StrangeIssuer h.subjects i ⊎ ((Registered h.subjects m → ⊥) ⊎ (IsGroup h.subjects g → ⊥)))
  decides_strangers i m g = Decides-or _ _ (decides_strange h.subjects i) (Decides-or _ _ (Decides-not _ (decides_is_some (h.subjects m))) (Decides-not _ (decides_group (h.subjects g))))

  decides_range : (p a b : ℕ) → Decides (access_range p a b) ((p ≤ 3) × (a ≤ 1) × (b ≤ 1))
  decides_range p a b = decides_and_3 _ _ _ (decides_leb p 3) (decides_leb a 1) (decides_leb b 1)

  module _ (sound : Sound h) where
    nobody : Decides (not (some_below (λ n. person_test (h.subjects n)) 256)) ((n : ℕ) → IsPerson h.subjects n → ⊥)
    nobody =
        Decides-like _ (λ (no_one : (k : ℕ) × (k < 256) × IsPerson h.subjects k → ⊥) n p. let le = sound.few_subjects n (Subject.Person p.0, p.1) in no_one (n, omega arith, p)) (λ all x. all x.0 x.2)
        (Decides-not _ (decides_below (IsPerson h.subjects) (λ n. person_test (h.subjects n)) (λ k. decides_person (h.subjects k)) 256))

    named_somewhere : (t : ℕ) → Decides (some_below (λ v. names_test h.tables v t) 128) ((v : ℕ) × Names h.tables v t)
    named_somewhere t =
        Decides-like _ (λ x. (x.0, x.2)) (λ x. let le = sound.few_tables x.0 (x.1.0, x.1.1) in (x.0, omega arith, x.1))
        (decides_below (λ v. Names h.tables v t) (λ v. names_test h.tables v t) (λ v. decides_names h.tables v t) 128)

    pub tests_decide : (c : Command) → Decided (checks lent h c) (tests c)
    unfolding checks user_checks group_checks open_checks base_checks view_checks drop_checks admit_checks remove_checks give_checks lend_checks may_checks
    tests_decide (Command.User n c) = (Decides-not _ (Decides-and _ _ (decides_subject_number n) (decides_leb c 1)), (decides_is_some (h.subjects n), tt))
    tests_decide (Command.Group n) = (Decides-not _ (decides_subject_number n), (decides_is_some (h.subjects n), tt))
    tests_decide Command.Open = (nobody, tt)
    tests_decide Command.Close = tt
    tests_decide (Command.Admit i m g) = (
      Decides-not _ (decides_numbers i m g),
      (
        decides_strangers i m g,
        (
          Decides-not _ (Decides-eqb i 0),
          (
            decides_pair_in (pair m g) h.pairs,
            (decides_within h.pairs g m, (Decides-eqb (length h.pairs) lent.roll_ceiling, (decides_clashing (pair m g ∷ h.pairs) h.tables h.entries (λ t. 7) sound.low, tt))),
          ),
        ),
      ),
    )
    tests_decide (Command.Remove i m g) = (Decides-not _ (decides_numbers i m g), (decides_strangers i m g, (Decides-not _ (Decides-eqb i 0), (Decides-not _ (decides_pair_in (pair m g) h.pairs), tt))))
    tests_decide (Command.Base i t) =
        (Decides-not _ (Decides-and _ _ (decides_leb i 255) (decides_leb t 127)), (decides_strange h.subjects i, (decides_no_mark h.subjects i, (decides_stands h.tables t, tt))))
    tests_decide (Command.View i t d) = (
      Decides-not _ (decides_and_3 _ _ _ (decides_leb i 255) (decides_leb t 127) (decides_all (λ c. c ≤ 127) (λ c. leb c 127) (tables_in d) (λ c _. decides_leb c 127))),
      (
        decides_strange h.subjects i,
        (
          Decides-not _ (decides_all (Stands h.tables) (stands_test h.tables) (tables_in d) (λ c _. decides_stands h.tables c)),
          (
            decides_no_mark h.subjects i,
            (
              decides_stands h.tables t,
              (
                Decides-not _ (decides_well_made h.tables (tables_in d)),
                tt,
              ),
            ),
          ),
        ),
      ),
    )
    tests_decide (Command.Drop i t) = (
      Decides-not _ (Decides-and _ _ (decides_leb i 255) (decides_leb t 127)),
      (
        decides_strange h.subjects i,
        (
          Decides-not _ (decides_stands h.tables t),
          (
            Decides-or _ _ (Decides-eqb i 0) (Decides-not _ (decides_owns h.tables i t)),
            (
              named_somewhere t,
              tt,
            ),
          ),
        ),
      ),
    )
    tests_decide (Command.Give i s p sign t strength) =
        let e = access_entry i s p sign t strength in
        decides_grant Registered is_some (λ x. decides_is_some (h.subjects x)) _ _ (decides_range p sign strength) i s t _ _ (
          decides_entry_in e h.entries,
          (
            Decides-not _ (decides_supported h.tables 7 h.entries e (sound.low t)),
            (
              Decides-and _ _ (Decides-eqb sign 1) (decides_view h.tables t),
              (
                Decides-eqb (length h.entries) lent.book_ceiling,
                (
                  decides_clashing h.pairs h.tables (e ∷ h.entries) (λ t. 7) sound.low,
                  tt,
                ),
              ),
            ),
          ),
        )
    tests_decide (Command.Ungive i s p sign t strength) =
        decides_revoke Registered is_some (λ x. decides_is_some (h.subjects x)) _ _ (decides_range p sign strength) i s t (access_entry i s p sign t strength)
    tests_decide (Command.Lend i s p t kind rank) =
        let e = admin_entry i s p t kind rank in
        decides_grant IsPerson person_test (λ x. decides_person (h.subjects x)) _ _ (decides_range p kind rank) i s t _ _ (
          decides_entry_in e h.entries,
          (
            Decides-not _ (decides_supported h.tables 7 h.entries e (sound.low t)),
            (
              Decides-eqb (length h.entries) lent.book_ceiling,
              tt,
            ),
          ),
        )
    tests_decide (Command.Unlend i s p t kind rank) =
        decides_revoke IsPerson person_test (λ x. decides_person (h.subjects x)) _ _ (decides_range p kind rank) i s t (admin_entry i s p t kind rank)
    tests_decide (Command.May u p t) = (
      Decides-ltb lent.slate 4096,
      (
        Decides-not _ (decides_and_3 _ _ _ (decides_subject_number u) (decides_leb p 3) (decides_leb t 127)),
        (
          Decides-not _ (decides_person (h.subjects u)),
          (
            Decides-not _ (decides_stands h.tables t),
            tt,
          ),
        ),
      ),
    )

-- the turn of a word
abbrev pub turn_test : State → Turn → Bool
turn_test State.SettingUp preparing = true
turn_test State.Open working = true
turn_test State.Open asking = true
turn_test State.Closed asking = true
turn_test _ _ = false

pub decides_turn : (s : State) (w : Turn) → Decides (turn_test s w) (InTurn s w)
decides_turn State.SettingUp preparing = decided_yes tt
decides_turn State.Open working = decided_yes tt
decides_turn State.Open asking = decided_yes tt
decides_turn State.Closed asking = decided_yes tt
decides_turn _ _ = decided_no (λ h. h)

-- the register's refusal of a command, by the tests of its list
unfoldable pub refusal : Lent → History → Command → Option RegisterFault
unfolding checks user_checks group_checks open_checks base_checks view_checks drop_checks admit_checks remove_checks grant_checks give_checks lend_checks revoke_checks may_checks same_entry
refusal lent h c = first_of (checks lent h c) (tests lent h c)

pub refusal_first : (lent : Lent) (h : History) → Sound h → (c : Command) → First (checks lent h c) (refusal lent h c)
unfolding refusal
refusal_first lent h sound c = first_decided (checks lent h c) (tests lent h c) (tests_decide lent h sound c)
