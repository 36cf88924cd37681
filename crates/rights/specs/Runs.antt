-- Runs: the answers that the rules give to a list of commands, and the history that they lead to.
-- Accepted: the answer to a command that is carried out. Step: the one right answer to a command with what comes
-- of it. Run: a list of steps.
use Rattle.std.specs.Prelude.{◌≡◌, List, [], ◌∷◌, length, Some, None}
use Rattle.rights.specs.declared.commands.Answer.{Answer}
use Rattle.rights.specs.declared.commands.Command.{Command}
use Rattle.rights.specs.declared.commands.State.{State}
use Rattle.rights.specs.declared.entries.Entry.{Entry}
use Rattle.rights.specs.declared.faults.SheetFault.{SheetFault}
use Rattle.rights.specs.Access.{Answers}
use Rattle.rights.specs.Checks.{First}
use Rattle.rights.specs.History.{History, Becomes}
use Rattle.rights.specs.Read.{privilege_of}
use Rattle.rights.specs.Refusals.{Lent, sheet_checks}

-- the state after an accepted command
abbrev pub next_state : State → Command → State
next_state state (Command.User n c) = state
next_state state (Command.Group n) = state
next_state state Command.Open = State.Open
next_state state Command.Close = State.Closed
next_state state (Command.Admit i m g) = state
next_state state (Command.Remove i m g) = state
next_state state (Command.Base i t) = state
next_state state (Command.View i t d) = state
next_state state (Command.Drop i t) = state
next_state state (Command.Give i s p sign t strength) = state
next_state state (Command.Ungive i s p sign t strength) = state
next_state state (Command.Lend i s p t kind rank) = state
next_state state (Command.Unlend i s p t kind rank) = state
next_state state (Command.May u p t) = state

-- how an accepted command is answered, if it struck these entries
unfoldable pub Accepted : History → Command → List Entry → Answer → Type 0
Accepted h (Command.User n c) struck a = a ≡ Answer.Done
Accepted h (Command.Group n) struck a = a ≡ Answer.Done
Accepted h Command.Open struck a = a ≡ Answer.Done
Accepted h Command.Close struck a = a ≡ Answer.Done
Accepted h (Command.Admit i m g) struck a = a ≡ Answer.Done
Accepted h (Command.Remove i m g) struck a = a ≡ Answer.Done
Accepted h (Command.Base i t) struck a = a ≡ Answer.Done
Accepted h (Command.View i t d) struck a = a ≡ Answer.Done
Accepted h (Command.Drop i t) struck a = a ≡ Answer.Done
Accepted h (Command.Give i s p sign t strength) struck a = a ≡ Answer.Done
Accepted h (Command.Ungive i s p sign t strength) struck a = a ≡ Answer.Struck (length struck)
Accepted h (Command.Lend i s p t kind rank) struck a = a ≡ Answer.Done
Accepted h (Command.Unlend i s p t kind rank) struck a = a ≡ Answer.Struck (length struck)
Accepted h (Command.May u p t) struck a = Answers h.pairs h.tables h.entries u (privilege_of p) t a

-- one command, its answer, and what it leaves; struck lists what a revocation struck
pub data Step (lent : Lent) (state : State) (h : History) (c : Command) : List Entry → Answer → State → History → Type 0 where
  refused : {f : SheetFault} → First (sheet_checks lent h state c) (Some f) → Step lent state h c [] (Answer.Refused f) state h
  accepted : {a : Answer} {struck : List Entry} {h' : History} → First (sheet_checks lent h state c) None → Accepted h c struck a → Becomes h c struck h' → Step lent state h c struck a (next_state state c) h'

-- a command with what its call was lent
pub record Call : Type 0 where
  pub lent : Lent
  pub command : Command

-- a list of commands, with what each struck and its answer
pub data Run : State → History → List Call → List (List Entry) → List Answer → State → History → Type 0 where
  done : {state : State} {h : History} → Run state h [] [] [] state h
  more : {state state' state'' : State} {h h' h'' : History} {c : Call} {cs : List Call} {struck : List Entry} {all : List (List Entry)} {a : Answer} {answers : List Answer} →
      Step c.lent state h c.command struck a state' h' → Run state' h' cs all answers state'' h'' → Run state h (c ∷ cs) (struck ∷ all) (a ∷ answers) state'' h''
