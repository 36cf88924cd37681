-- Every command has an outcome: in a sound history the tests of the rules compute the answer, what is struck and
-- the next history, which is sound again. So every list of commands has a run from the empty history.
use Rattle.std.proofs.Common.{◌≡◌, ℕ, ◌≤◌, Bool, true, false, cond, not, eqb, List, [], ◌∷◌, length, Some, None, Decides, Option, refl, ◌∙◌, subst, inl, inr, ⊎_elim, arith}
use Rattle.std.specs.List.{filter}
use Rattle.std.proofs.lemmas.Bool.Decides.{not_from_Decides, Decides-eqb, Decides-not}
use Rattle.std.proofs.lemmas.Option.{none-some}
use Rattle.rights.specs.declared.commands.Answer.{Answer}
use Rattle.rights.specs.declared.commands.Command.{Command}
use Rattle.rights.specs.declared.commands.State.{State}
use Rattle.rights.specs.declared.entries.Entry.{Entry}
use Rattle.rights.specs.declared.entries.Pair.{Pair}
use Rattle.rights.specs.declared.faults.RegisterFault.{RegisterFault}
use Rattle.rights.specs.declared.faults.SheetFault.{SheetFault}
use Rattle.rights.specs.declared.records.Subject.{Subject}
use Rattle.rights.specs.Chain.{Revoked}
use Rattle.rights.specs.Checks.{Check, First}
use Rattle.rights.specs.Entries.{Before, before, same_entry}
use Rattle.rights.specs.History.{History, empty_history, with_subjects, with_pairs, with_tables, with_entries, Becomes}
use Rattle.rights.specs.Lists.{In, Rising, Placed}
use Rattle.rights.specs.Pairs.{pair, Before as PairBefore}
use Rattle.rights.specs.Read.{privilege_of, mark_of, access_entry, admin_entry, tables_in}
use Rattle.rights.specs.Refusals.{Lent, WellMade, user_checks, group_checks, base_checks, view_checks, drop_checks, admit_checks, remove_checks, grant_checks, give_checks, lend_checks, checks, Takes, turn}
use Rattle.rights.specs.Runs.{next_state, Accepted, Step, Call, Run, done, more}
use Rattle.rights.specs.Subjects.{enrolled}
use Rattle.rights.specs.Tables.{Table, Tables, made, unmade, Stands, Names, LevelOver, over_none}
use Rattle.rights.proofs.Access.{answer, answers}
use Rattle.rights.proofs.Chain.{chain_test, others_of, revoked_by}
use Rattle.rights.proofs.Cover.{supported_test, decides_supported}
use Rattle.rights.proofs.Deciding.{decides_leb, stable}
use Rattle.rights.proofs.Holding.{same_pair, decides_same_pair, decides_pair_in}
use Rattle.rights.proofs.Order.{decides_before, before_transitive, before_total}
use Rattle.rights.proofs.Pairs.{pair_before, decides_pair_before, pair_transitive, pair_total}
use Rattle.rights.proofs.Parts.{parted_by}
use Rattle.rights.proofs.Placing.{place, unplace, placed_in, unplaced_in, placed_rises, unplace_rises, kept_rises}
use Rattle.rights.proofs.Refusals.{Sound, turn_test, decides_turn, refusal, refusal_first, decides_well_made}
use Rattle.rights.proofs.Steps.{out_of_turn, refused_step, accepted_step}
use Rattle.rights.proofs.Tables.{Low, level_stays, low_made, low_none, put_other, put_cases}

-- none of the checks applies
abbrev pub NoneOf : {F : Type 0} → List (Check F) → Type 0
NoneOf [] = Unit {0}
NoneOf (c ∷ cs) = (c.when → ⊥) × NoneOf cs

pub none_applies : {F : Type 0} (cs : List (Check F)) → First cs None → NoneOf cs
unfolding First
none_applies [] f = tt
none_applies (c ∷ cs) (inl h) = absurd (none-some c.gives h.1)
none_applies (c ∷ cs) (inr h) = (h.0, none_applies cs h.1)

pub first_none_of : {F : Type 0} (cs : List (Check F)) → NoneOf cs → First cs None
unfolding First
first_none_of [] n = refl
first_none_of (c ∷ cs) n = inr (n.0, first_none_of cs n.1)

-- what a revocation keeps and strikes
abbrev pub stays : History → Entry → Entry → Bool
stays h e = chain_test (supported_test h.tables 7) (others_of e h.entries)

-- the next history
abbrev pub next : History → Command → History
next h (Command.User n c) = with_subjects (enrolled n (Subject.Person (mark_of c)) h.subjects) h
next h (Command.Group n) = with_subjects (enrolled n Subject.Group h.subjects) h
next h (Command.Admit i m g) = with_pairs (place pair_before (pair m g) h.pairs) h
next h (Command.Remove i m g) = with_pairs (unplace same_pair (pair m g) h.pairs) h
next h (Command.Base i t) = with_tables (made t (record { owner = i; names = [] }) h.tables) h
next h (Command.View i t d) = with_tables (made t (record { owner = i; names = tables_in d }) h.tables) h
next h (Command.Drop i t) = with_tables (unmade t h.tables) (with_entries (filter (λ (e : Entry). not (eqb e.table t)) h.entries) h)
next h (Command.Give i s p sign t strength) = with_entries (place before (access_entry i s p sign t strength) h.entries) h
next h (Command.Ungive i s p sign t strength) = with_entries (filter (stays h (access_entry i s p sign t strength)) h.entries) h
next h (Command.Lend i s p t kind rank) = with_entries (place before (admin_entry i s p t kind rank) h.entries) h
next h (Command.Unlend i s p t kind rank) = with_entries (filter (stays h (admin_entry i s p t kind rank)) h.entries) h
next h _ = h

-- what is struck
abbrev pub struck_by : History → Command → List Entry
struck_by h (Command.Ungive i s p sign t strength) = filter (λ e. not (stays h (access_entry i s p sign t strength) e)) h.entries
struck_by h (Command.Unlend i s p t kind rank) = filter (λ e. not (stays h (admin_entry i s p t kind rank) e)) h.entries
struck_by h _ = []

-- how it is answered
abbrev pub reply : History → Command → Answer
reply h (Command.Ungive i s p sign t strength) = Answer.Struck (length (struck_by h (Command.Ungive i s p sign t strength)))
reply h (Command.Unlend i s p t kind rank) = Answer.Struck (length (struck_by h (Command.Unlend i s p t kind rank)))
reply h (Command.May u p t) = answer h.pairs h.tables h.entries 7 u (privilege_of p) t
reply h _ = Answer.Done

entry_placed : (e : Entry) (es : List Entry) → Rising Before es → (In e es → ⊥) → Placed Before e es (place before e es)
entry_placed = placed_in Before before decides_before before_transitive before_total

pair_placed : (a : Pair) (ps : List Pair) → Rising PairBefore ps → (In a ps → ⊥) → Placed PairBefore a ps (place pair_before a ps)
pair_placed = placed_in PairBefore pair_before decides_pair_before pair_transitive pair_total

pair_unplaced : (a : Pair) (ps : List Pair) → Rising PairBefore ps → In a ps → Placed PairBefore a (unplace same_pair a ps) ps
pair_unplaced = unplaced_in PairBefore same_pair decides_same_pair

module _ (lent : Lent) (h : History) (sound : Sound h) where
  replied : (c : Command) → Accepted h c (struck_by h c) (reply h c)
  unfolding Accepted
  replied (Command.Ungive i s p sign t strength) = refl
  replied (Command.Unlend i s p t kind rank) = refl
  replied (Command.May u p t) = answers h.pairs h.tables h.entries 7 u (privilege_of p) t (sound.low t)
  replied _ = refl

  revoked : (e : Entry) → Revoked h.tables e h.entries (filter (stays h e) h.entries) (filter (λ f. not (stays h e f)) h.entries)
  revoked e = revoked_by h.tables (supported_test h.tables 7) (λ m f. decides_supported h.tables 7 m f (sound.low f.table)) e h.entries

  becomes : (c : Command) → NoneOf (checks lent h c) → Becomes h c (struck_by h c) (next h c)
  unfolding Becomes checks admit_checks remove_checks give_checks lend_checks grant_checks
  becomes (Command.Admit i m g) x = (refl, (_, pair_placed (pair m g) h.pairs sound.pairs_rise x.1.1.1.0, refl))
  becomes (Command.Remove i m g) x = (refl, (_, pair_unplaced (pair m g) h.pairs sound.pairs_rise (stable _ (decides_pair_in (pair m g) h.pairs) x.1.1.1.0), refl))
  becomes (Command.Drop i t) x = (refl, (_, _, parted_by (λ (e : Entry). e.table ≡ t → ⊥) (λ (e : Entry). not (eqb e.table t)) h.entries (λ e. Decides-not _ (Decides-eqb e.table t)), refl))
  becomes (Command.Give i s p sign t strength) x = (refl, (_, entry_placed (access_entry i s p sign t strength) h.entries sound.entries_rise x.1.1.1.1.0, refl))
  becomes (Command.Ungive i s p sign t strength) x = (_, revoked (access_entry i s p sign t strength), refl)
  becomes (Command.Lend i s p t kind rank) x = (refl, (_, entry_placed (admin_entry i s p t kind rank) h.entries sound.entries_rise x.1.1.1.1.0, refl))
  becomes (Command.Unlend i s p t kind rank) x = (_, revoked (admin_entry i s p t kind rank), refl)
  becomes _ x = (refl, refl)

-- soundness is kept
none_stands : {X : Type 0} (o : Option X) → ((x : X) × (o ≡ Some x) → ⊥) → o ≡ None
none_stands None n = refl
none_stands (Some x) n = absurd (n (x, refl))

few_put : {X : Type 0} (under : ℕ → Option X) (n top : ℕ) (r : X) → n ≤ top → ((m : ℕ) → (q : X) × (under m ≡ Some q) → m ≤ top) → (m : ℕ) → (q : X) × (cond (eqb m n) (Some r) (under m) ≡ Some q) → m ≤ top
few_put under n top r le few m s = ⊎_elim (λ h. omega (arith, h.0)) (λ h. few m (s.0, h.1)) (put_cases under n (Some r) m (Some s.0) s.1)

module _ (tables : Tables) (t : ℕ) where
  unmade_stands : (m : ℕ) → Stands (unmade t tables) m → Stands tables m × (m ≡ t → ⊥)
  unmade_stands m s = ⊎_elim (λ h. absurd (none-some s.0 h.1)) (λ h. ((s.0, h.1), h.0)) (put_cases tables t None m (Some s.0) s.1)

  low_unmade : ((v : ℕ) → Names tables v t → ⊥) → (n d : ℕ) → Low tables n d → Low (unmade t tables) n d
  low_unmade free n d low s =
      let u = unmade_stands d s in
      let l = low u.0 in
      (l.0, level_stays tables (unmade t tables) (λ c. c ≡ t → ⊥) (λ c apart r e. put_other tables t None c apart ∙ e) (λ v c _ named same. free v (subst (Names tables v) same named)) l.1 u.1, l.2)

module _ (lent : Lent) (h : History) (sound : Sound h) where
  with_entries_sound : (es : List Entry) → Rising Before es → Sound (with_entries es h)
  with_entries_sound es r = record { low = sound.low; few_subjects = sound.few_subjects; few_tables = sound.few_tables; pairs_rise = sound.pairs_rise; entries_rise = r }

  with_pairs_sound : (ps : List Pair) → Rising PairBefore ps → Sound (with_pairs ps h)
  with_pairs_sound ps r = record { low = sound.low; few_subjects = sound.few_subjects; few_tables = sound.few_tables; pairs_rise = r; entries_rise = sound.entries_rise }

  with_subject_sound : (n : ℕ) (r : Subject) → n ≤ 255 → Sound (with_subjects (enrolled n r h.subjects) h)
  with_subject_sound n r le = record { low = sound.low; few_subjects = few_put h.subjects n 255 r le sound.few_subjects; few_tables = sound.few_tables; pairs_rise = sound.pairs_rise; entries_rise = sound.entries_rise }

  with_table_sound : (t k : ℕ) (r : Table) → t ≤ 127 → (Stands h.tables t → ⊥) → LevelOver h.tables r.names k → k ≤ 7 → Sound (with_tables (made t r h.tables) h)
  with_table_sound t k r le free over high =
      record {
        low = low_made h.tables t r 7 k sound.low (none_stands (h.tables t) free) over high;
        few_subjects = sound.few_subjects;
        few_tables = few_put h.tables t 127 r le sound.few_tables;
        pairs_rise = sound.pairs_rise;
        entries_rise = sound.entries_rise;
      }

  -- a number that is refused where it is greater
  at_most : (n m : ℕ) → ((n ≤ m → ⊥) → ⊥) → n ≤ m
  at_most n m = stable _ (decides_leb n m)

  next_sound : (c : Command) → NoneOf (checks lent h c) → Sound (next h c)
  unfolding checks user_checks group_checks base_checks view_checks drop_checks admit_checks remove_checks give_checks lend_checks grant_checks WellMade Revoked
  next_sound (Command.User n c) x = with_subject_sound n _ (at_most n 255 (λ k. x.0 (λ r. k r.0.1)))
  next_sound (Command.Group n) x = with_subject_sound n _ (at_most n 255 (λ k. x.0 (λ r. k r.1)))
  next_sound (Command.Admit i m g) x = with_pairs_sound _ (placed_rises PairBefore _ _ _ (pair_placed (pair m g) h.pairs sound.pairs_rise x.1.1.1.0))
  next_sound (Command.Remove i m g) x = with_pairs_sound _ (unplace_rises PairBefore same_pair (pair m g) h.pairs sound.pairs_rise)
  next_sound (Command.Base i t) x = with_table_sound t 0 _ (at_most t 127 (λ k. x.0 (λ r. k r.1))) x.1.1.1.0 over_none (omega arith)
  next_sound (Command.View i t d) x =
      let made_up = (stable _ (decides_well_made h.tables (tables_in d)) x.1.1.1.1.1.0).3 in
      with_table_sound t made_up.0 _ (at_most t 127 (λ k. x.0 (λ r. k r.1))) x.1.1.1.1.0 made_up.1 made_up.2
  next_sound (Command.Drop i t) x =
      record {
        low = λ d. low_unmade h.tables t (λ v n. x.1.1.1.1.0 (v, n)) 7 d (sound.low d);
        few_subjects = sound.few_subjects;
        few_tables = λ m s. sound.few_tables m (unmade_stands h.tables t m s).0;
        pairs_rise = sound.pairs_rise;
        entries_rise = kept_rises _ Before (parted_by (λ (e : Entry). e.table ≡ t → ⊥) (λ (e : Entry). not (eqb e.table t)) h.entries (λ e. Decides-not _ (Decides-eqb e.table t))) sound.entries_rise;
      }
  next_sound (Command.Give i s p sign t strength) x = with_entries_sound _ (placed_rises Before _ _ _ (entry_placed (access_entry i s p sign t strength) h.entries sound.entries_rise x.1.1.1.1.0))
  next_sound (Command.Ungive i s p sign t strength) x = with_entries_sound _ (kept_rises _ Before (revoked lent h sound (access_entry i s p sign t strength)) sound.entries_rise)
  next_sound (Command.Lend i s p t kind rank) x = with_entries_sound _ (placed_rises Before _ _ _ (entry_placed (admin_entry i s p t kind rank) h.entries sound.entries_rise x.1.1.1.1.0))
  next_sound (Command.Unlend i s p t kind rank) x = with_entries_sound _ (kept_rises _ Before (revoked lent h sound (admin_entry i s p t kind rank)) sound.entries_rise)
  next_sound _ x = sound

pub empty_sound : Sound empty_history
empty_sound = record { low = low_none 7; few_subjects = λ n s. absurd (none-some s.0 s.1); few_tables = λ t s. absurd (none-some s.0 s.1); pairs_rise = tt; entries_rise = tt }

-- what comes of one command
pub record Outcome : Type 0 where
  pub struck : List Entry
  pub reply : Answer
  pub state : State
  pub history : History

-- by whether it has its turn, and by the register's refusal
abbrev pub outcome_of : State → History → Command → Bool → Option RegisterFault → Outcome
outcome_of state h c false r = record { struck = []; reply = Answer.Refused SheetFault.OutOfTurn; state = state; history = h }
outcome_of state h c true (Some f) = record { struck = []; reply = Answer.Refused (SheetFault.Register f); state = state; history = h }
outcome_of state h c true None = record { struck = struck_by h c; reply = reply h c; state = next_state state c; history = next h c }

unfoldable pub outcome : Lent → State → History → Command → Outcome
unfolding refusal before same_entry
outcome lent state h c = outcome_of state h c (turn_test state (turn c)) (refusal lent h c)

abbrev Ends : Lent → State → History → Command → Outcome → Type 0
Ends lent state h c o = Step lent state h c o.struck o.reply o.state o.history × Sound o.history

pub step_by : (lent : Lent) (state : State) (h : History) (c : Command) → Sound h → Ends lent state h c (outcome lent state h c)
unfolding outcome
step_by lent state h c sound = by (turn_test state (turn c)) (decides_turn state (turn c)) (refusal lent h c) (refusal_first lent h sound c)
  where
    by : (b : Bool) → Decides b (Takes state c) → (r : Option RegisterFault) → First (checks lent h c) r → Ends lent state h c (outcome_of state h c b r)
    by false d r x = (out_of_turn lent state h c (not_from_Decides false d refl), sound)
    by true d (Some f) x = (refused_step lent state h c (d.0 refl) f x, sound)
    by true d None x =
        let n = none_applies (checks lent h c) x in
        (accepted_step lent state h c (d.0 refl) (reply h c) (struck_by h c) (next h c) x (replied lent h sound c) (becomes lent h sound c n), next_sound lent h sound c n)

-- what comes of a list of commands
pub record Outcomes : Type 0 where
  pub struck : List (List Entry)
  pub answers : List Answer
  pub state : State
  pub history : History

unfoldable pub outcomes : State → History → List Call → Outcomes
outcomes state h [] = record { struck = []; answers = []; state = state; history = h }
outcomes state h (c ∷ cs) =
    let o = outcome c.lent state h c.command in
    let r = outcomes o.state o.history cs in
    record { struck = o.struck ∷ r.struck; answers = o.reply ∷ r.answers; state = r.state; history = r.history }

-- every list of commands has a run from a sound history
pub run_by : (state : State) (h : History) (cs : List Call) → Sound h → let o = outcomes state h cs in Run state h cs o.struck o.answers o.state o.history
unfolding outcomes
run_by state h [] sound = done
run_by state h (c ∷ cs) sound =
    let o = outcome c.lent state h c.command in
    let s = step_by c.lent state h c.command sound in
    more s.0 (run_by o.state o.history cs s.1)
