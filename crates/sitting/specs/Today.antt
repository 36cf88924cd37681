-- What a sitting answers to a command with the words that run today.
-- runs: these words. untaken: what a state refuses any other word for. Answered: the answer and what comes of it, by the rules, or an unknown word.
use Rattle.std.specs.Prelude.{◌≡◌, ℕ, Bool, true, false, cond, [], MatchBool}
use Rattle.register.specs.declared.catalogue.Catalogue.{Catalogue}
use Rattle.register.specs.Catalogue.{subjects_in, tables_in}
use Rattle.rights.specs.declared.commands.Answer.{Answer}
use Rattle.rights.specs.declared.commands.Command.{Command}
use Rattle.rights.specs.declared.commands.State.{State}
use Rattle.rights.specs.declared.faults.SheetFault.{SheetFault}
use Rattle.rights.specs.History.{History}
use Rattle.rights.specs.Refusals.{Lent}
use Rattle.rights.specs.Runs.{Step}
use Rattle.sitting.specs.declared.words.Sitting.{Sitting}
use Rattle.sitting.specs.Counts.{counted}
use Rattle.sitting.specs.States.{setting_up_carried, open_carried, closed_carried}

-- the words that run today
abbrev pub runs : Command → Bool
runs (Command.User n c) = true
runs (Command.Group n) = true
runs Command.Open = true
runs Command.Close = true
runs (Command.Admit i m g) = false
runs (Command.Remove i m g) = false
runs (Command.Base i t) = true
runs (Command.View i t d) = true
runs (Command.Drop i t) = false
runs (Command.Give i s p sign t strength) = false
runs (Command.Ungive i s p sign t strength) = false
runs (Command.Lend i s p t kind rank) = false
runs (Command.Unlend i s p t kind rank) = false
runs (Command.May u p t) = false

-- what a state refuses a word for that is none of its own
abbrev pub untaken : Command → SheetFault
untaken c = cond (runs c) SheetFault.OutOfTurn SheetFault.Unreadable

abbrev pub state_of : Sitting → State
state_of (Sitting.SettingUp s) = State.SettingUp
state_of (Sitting.Open s) = State.Open
state_of (Sitting.Closed s) = State.Closed

-- how many commands it has carried out
abbrev pub carried_in : Sitting → ℕ
carried_in (Sitting.SettingUp s) = setting_up_carried s
carried_in (Sitting.Open s) = open_carried s
carried_in (Sitting.Closed s) = closed_carried s

-- the history that a catalogue stands for: no pair and no entry can be made yet
abbrev pub history_of : Catalogue → History
history_of c = record { subjects = subjects_in c; pairs = []; tables = tables_in c; entries = [] }

-- an unknown word changes nothing
pub record Unknown (state : State) (h : History) (a : Answer) (state' : State) (h' : History) : Type 0 where
  pub answer : a ≡ Answer.Refused SheetFault.Unreadable
  pub stays : state' ≡ state
  pub same : h' ≡ h

-- whatever the call is lent, a word that runs is answered by the rules, and any other as an unknown word
abbrev pub Answered : State → History → Command → Answer → State → History → Type 0
Answered state h c a state' h' = MatchBool (runs c) ((lent : Lent) → Step lent state h c [] a state' h') (Unknown state h a state' h')

-- a command that is carried out counts, a refused one does not
abbrev pub Tallied : Answer → ℕ → ℕ → Type 0
Tallied Answer.Done before after = after ≡ counted before
Tallied (Answer.Struck n) before after = after ≡ counted before
Tallied (Answer.Yes g) before after = after ≡ counted before
Tallied (Answer.No g) before after = after ≡ counted before
Tallied (Answer.Refused f) before after = after ≡ before
