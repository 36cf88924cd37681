-- From what a call of a state promises to the answer of the rules. Assumes nothing.
use Rattle.std.proofs.Common.{◌≡◌, ℕ, Bool, true, false, [], Some, None, Ok, Err, Result, sym, refl, ap, subst, MatchResult}
use Rattle.std.specs.Prelude.{cond, MatchBool}
use Rattle.std.proofs.lemmas.Bool.{false≢true}
use Rattle.register.specs.declared.catalogue.Catalogue.{Catalogue}
use Rattle.register.specs.Catalogue.{subjects_in, tables_in, Enrolled, Tabled}
use Rattle.rights.specs.declared.commands.Answer.{Answer}
use Rattle.rights.specs.declared.commands.Command.{Command}
use Rattle.rights.specs.declared.commands.Named.{Named}
use Rattle.rights.specs.declared.commands.State.{State}
use Rattle.rights.specs.declared.faults.RegisterFault.{RegisterFault}
use Rattle.rights.specs.declared.faults.SheetFault.{SheetFault}
use Rattle.rights.specs.declared.records.Subject.{Subject}
use Rattle.rights.specs.Checks.{First, fault_of}
use Rattle.rights.specs.Faults.{answer_of}
use Rattle.rights.specs.History.{History, Becomes, with_subjects, with_tables}
use Rattle.rights.specs.Read.{mark_of, tables_in as listed}
use Rattle.rights.specs.Refusals.{Lent, Takes, checks, user_checks, group_checks, open_checks, base_checks, view_checks}
use Rattle.rights.specs.Runs.{Step, Accepted, next_state}
use Rattle.rights.specs.Subjects.{enrolled}
use Rattle.rights.specs.Tables.{Table, made}
use Rattle.rights.proofs.Checks.{first_none}
use Rattle.rights.proofs.Steps.{out_of_turn, refused_step, accepted_step}
use Rattle.sitting.specs.Today.{runs, untaken, history_of, Unknown, Answered}

-- what the sheet makes of the register's answer
abbrev pub passed_up : Result (Unit {0}) RegisterFault → Result (Unit {0}) SheetFault
passed_up (Ok x) = Ok x
passed_up (Err f) = Err (SheetFault.Register f)

-- a call that the register answered with r, in a state that takes the word
step_by : (state : State) (h h' : History) (c : Command) (r : Result (Unit {0}) RegisterFault) → Takes state c → next_state state c ≡ state → ((lent : Lent) → First (checks lent h c) (fault_of r)) → MatchResult r (λ _. Accepted h c [] Answer.Done × Becomes h c [] h') (λ _. h' ≡ h) → (lent : Lent) → Step lent state h c [] (answer_of (passed_up r)) state h'
step_by state h h' c (Ok x) takes stays first done lent = subst (λ (s : State). Step lent state h c [] Answer.Done s h') stays (accepted_step lent state h c takes Answer.Done [] h' (first lent) done.0 done.1)
step_by state h h' c (Err f) takes stays first same lent = subst (λ (h'' : History). Step lent state h c [] (Answer.Refused (SheetFault.Register f)) state h'') (sym same) (refused_step lent state h c takes f (first lent))

-- what a call did, as the history has it
done : (P Q : Type 0) (r : Result (Unit {0}) RegisterFault) (x x' : Catalogue) → (P → Q) → MatchResult r (λ _. P) (λ _. x' ≡ x) → MatchResult r (λ _. Q) (λ _. history_of x' ≡ history_of x)
done P Q (Ok u) x x' f h = f h
done P Q (Err f) x x' g h = ap history_of h

-- one subject more in the catalogue is one more in the history
enrolled_history : (n : ℕ) (s : Subject) (x x' : Catalogue) → Enrolled n s x x' → history_of x' ≡ with_subjects (enrolled n s (history_of x).subjects) (history_of x)
enrolled_history n s x x' e = λ i. record { subjects = e.subjects i; pairs = []; tables = e.tables i; entries = [] }

tabled_history : (t : ℕ) (r : Table) (x x' : Catalogue) → Tabled t r x x' → history_of x' ≡ with_tables (made t r (history_of x).tables) (history_of x)
tabled_history t r x x' e = λ i. record { subjects = e.subjects i; pairs = []; tables = e.tables i; entries = [] }

module _ (x x' : Catalogue) (r : Result (Unit {0}) RegisterFault) where
  pub user_step : (n c : ℕ) → First (user_checks (subjects_in x) n c) (fault_of r) → MatchResult r (λ _. Enrolled n (Subject.Person (mark_of c)) x x') (λ _. x' ≡ x) → (lent : Lent) → Step lent State.SettingUp (history_of x) (Command.User n c) [] (answer_of (passed_up r)) State.SettingUp (history_of x')
  unfolding checks Accepted Becomes
  user_step n c first effect = step_by State.SettingUp (history_of x) (history_of x') (Command.User n c) r tt refl (λ lent. first) (done _ _ r x x' (λ e. (refl, (refl, enrolled_history n _ x x' e))) effect)

  pub group_step : (n : ℕ) → First (group_checks (subjects_in x) n) (fault_of r) → MatchResult r (λ _. Enrolled n Subject.Group x x') (λ _. x' ≡ x) → (lent : Lent) → Step lent State.SettingUp (history_of x) (Command.Group n) [] (answer_of (passed_up r)) State.SettingUp (history_of x')
  unfolding checks Accepted Becomes
  group_step n first effect = step_by State.SettingUp (history_of x) (history_of x') (Command.Group n) r tt refl (λ lent. first) (done _ _ r x x' (λ e. (refl, (refl, enrolled_history n _ x x' e))) effect)

  pub base_step : (i t : ℕ) → First (base_checks (subjects_in x) (tables_in x) i t) (fault_of r) → MatchResult r (λ _. Tabled t (record { owner = i; names = [] }) x x') (λ _. x' ≡ x) → (lent : Lent) → Step lent State.Open (history_of x) (Command.Base i t) [] (answer_of (passed_up r)) State.Open (history_of x')
  unfolding checks Accepted Becomes
  base_step i t first effect = step_by State.Open (history_of x) (history_of x') (Command.Base i t) r tt refl (λ lent. first) (done _ _ r x x' (λ e. (refl, (refl, tabled_history t _ x x' e))) effect)

  pub view_step : (i t : ℕ) (d : Named) → First (view_checks (subjects_in x) (tables_in x) i t (listed d)) (fault_of r) → MatchResult r (λ _. Tabled t (record { owner = i; names = listed d }) x x') (λ _. x' ≡ x) → (lent : Lent) → Step lent State.Open (history_of x) (Command.View i t d) [] (answer_of (passed_up r)) State.Open (history_of x')
  unfolding checks Accepted Becomes
  view_step i t d first effect = step_by State.Open (history_of x) (history_of x') (Command.View i t d) r tt refl (λ lent. first) (done _ _ r x x' (λ e. (refl, (refl, tabled_history t _ x x' e))) effect)

-- opening and closing leave the history as it was
pub opened : (h : History) → First (open_checks h.subjects) None → (lent : Lent) → Step lent State.SettingUp h Command.Open [] Answer.Done State.Open h
unfolding checks Accepted Becomes
opened h first lent = accepted_step lent State.SettingUp h Command.Open tt Answer.Done [] h first refl (refl, refl)

pub not_opened : (h : History) (f : RegisterFault) → First (open_checks h.subjects) (Some f) → (lent : Lent) → Step lent State.SettingUp h Command.Open [] (Answer.Refused (SheetFault.Register f)) State.SettingUp h
unfolding checks
not_opened h f first lent = refused_step lent State.SettingUp h Command.Open tt f first

pub closed : (h : History) (lent : Lent) → Step lent State.Open h Command.Close [] Answer.Done State.Closed h
unfolding checks Accepted Becomes
closed h lent = accepted_step lent State.Open h Command.Close tt Answer.Done [] h (first_none None refl) refl (refl, refl)

-- the words that run, one by one
data Known : Command → Type 0 where
  user : {n c : ℕ} → Known (Command.User n c)
  group : {n : ℕ} → Known (Command.Group n)
  opening : Known Command.Open
  closing : Known Command.Close
  base : {i t : ℕ} → Known (Command.Base i t)
  view : {i t : ℕ} {d : Named} → Known (Command.View i t d)

known : (c : Command) → runs c ≡ true → Known c
known (Command.User n c) e = user
known (Command.Group n) e = group
known Command.Open e = opening
known Command.Close e = closing
known (Command.Admit i m g) e = absurd (false≢true e)
known (Command.Remove i m g) e = absurd (false≢true e)
known (Command.Base i t) e = base
known (Command.View i t d) e = view
known (Command.Drop i t) e = absurd (false≢true e)
known (Command.Give i s p sign t strength) e = absurd (false≢true e)
known (Command.Ungive i s p sign t strength) e = absurd (false≢true e)
known (Command.Lend i s p t kind rank) e = absurd (false≢true e)
known (Command.Unlend i s p t kind rank) e = absurd (false≢true e)
known (Command.May u p t) e = absurd (false≢true e)

by_rules : (state : State) (h : History) (c : Command) (a : Answer) (state' : State) (h' : History) → runs c ≡ true → ((lent : Lent) → Step lent state h c [] a state' h') → Answered state h c a state' h'
by_rules state h c a state' h' e step = rw e step

-- a command that is k, a word that runs, is answered by the rules for k
pub answered : (state state' : State) (h h' : History) (c k : Command) (a' a : Answer) → c ≡ k → a' ≡ a → runs k ≡ true → ((lent : Lent) → Step lent state h k [] a state' h') → Answered state h c a' state' h'
answered state state' h h' c k a' a is same e step =
    subst (λ (word : Command). Answered state h word a' state' h') (sym is) (subst (λ (b : Answer). Answered state h k b state' h') (sym same) (by_rules state h k a state' h' e step))

-- a word that is none of the state's own is out of turn, or does not run
late : (state : State) (h : History) (c : Command) → (runs c ≡ true → Takes state c → ⊥) → Answered state h c (Answer.Refused (untaken c)) state h
late state h c not = go (runs c) refl
  where
    go : (b : Bool) → runs c ≡ b → MatchBool b ((lent : Lent) → Step lent state h c [] (Answer.Refused (cond b SheetFault.OutOfTurn SheetFault.Unreadable)) state h) (Unknown state h (Answer.Refused (cond b SheetFault.OutOfTurn SheetFault.Unreadable)) state h)
    go true e = λ lent. out_of_turn lent state h c (not e)
    go false e = record { answer = refl; stays = refl; same = refl }

pub late_set_up : (h : History) (c : Command) → ((n k : ℕ) → c ≡ Command.User n k → ⊥) → ((n : ℕ) → c ≡ Command.Group n → ⊥) → (c ≡ Command.Open → ⊥) → Answered State.SettingUp h c (Answer.Refused (untaken c)) State.SettingUp h
late_set_up h c u g o = late State.SettingUp h c (λ e. not c (known c e) u g o)
  where
    not : (c : Command) → Known c → ((n k : ℕ) → c ≡ Command.User n k → ⊥) → ((n : ℕ) → c ≡ Command.Group n → ⊥) → (c ≡ Command.Open → ⊥) → Takes State.SettingUp c → ⊥
    not c Known.user no_user no_group no_open = λ _. no_user _ _ refl
    not c Known.group no_user no_group no_open = λ _. no_group _ refl
    not c Known.opening no_user no_group no_open = λ _. no_open refl
    not c Known.closing no_user no_group no_open = λ never. never
    not c Known.base no_user no_group no_open = λ never. never
    not c Known.view no_user no_group no_open = λ never. never

pub late_open : (h : History) (c : Command) → ((i t : ℕ) → c ≡ Command.Base i t → ⊥) → ((i t : ℕ) (d : Named) → c ≡ Command.View i t d → ⊥) → (c ≡ Command.Close → ⊥) → Answered State.Open h c (Answer.Refused (untaken c)) State.Open h
late_open h c b v o = late State.Open h c (λ e. not c (known c e) b v o)
  where
    not : (c : Command) → Known c → ((i t : ℕ) → c ≡ Command.Base i t → ⊥) → ((i t : ℕ) (d : Named) → c ≡ Command.View i t d → ⊥) → (c ≡ Command.Close → ⊥) → Takes State.Open c → ⊥
    not c Known.user no_base no_view no_close = λ never. never
    not c Known.group no_base no_view no_close = λ never. never
    not c Known.opening no_base no_view no_close = λ never. never
    not c Known.closing no_base no_view no_close = λ _. no_close refl
    not c Known.base no_base no_view no_close = λ _. no_base _ _ refl
    not c Known.view no_base no_view no_close = λ _. no_view _ _ _ refl

pub late_closed : (state : State) (h : History) (c : Command) → state ≡ State.Closed → Answered state h c (Answer.Refused (untaken c)) State.Closed h
late_closed state h c is = subst (λ (s : State). Answered s h c (Answer.Refused (untaken c)) State.Closed h) (sym is) (late State.Closed h c (λ e. not c (known c e)))
  where
    not : (c : Command) → Known c → Takes State.Closed c → ⊥
    not c Known.user = λ never. never
    not c Known.group = λ never. never
    not c Known.opening = λ never. never
    not c Known.closing = λ never. never
    not c Known.base = λ never. never
    not c Known.view = λ never. never
