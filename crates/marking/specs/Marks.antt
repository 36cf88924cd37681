-- What the printout of a sheet is: one answer for each line, in order, each right for the history that the lines
-- before it led to. A sheet of over 32,768 bytes has the one answer that it is unreadable.
-- LineAnswered: the right answer to one line. Answers: to a list of lines. Marked: the printout.
use Rattle.std.specs.Prelude.{◌≡◌, ℕ, ◌+◌, ◌<◌, ◌≤◌, List, [], ◌∷◌, ◌++◌, length, ◌≢◌}
use Rattle.reader.specs.Answers.{answer_line}
use Rattle.reader.specs.Lines.{lines}
use Rattle.reader.specs.Spelling.{written, Plain}
use Rattle.rights.specs.declared.commands.Answer.{Answer}
use Rattle.rights.specs.declared.commands.Command.{Command}
use Rattle.rights.specs.declared.commands.State.{State}
use Rattle.rights.specs.declared.faults.SheetFault.{SheetFault}
use Rattle.rights.specs.History.{History, empty_history}
use Rattle.sitting.specs.Today.{Answered, Unknown}

-- the answer to the command that the line is, or that it is none
pub data LineAnswered (state : State) (h : History) (line : List ℕ) (a : Answer) (state' : State) (h' : History) : Type 0 where
  read : (c : Command) → Plain c → written c ≡ line → Answered state h c a state' h' → LineAnswered state h line a state' h'
  unread : ((c : Command) → Plain c → written c ≢ line) → Unknown state h a state' h' → LineAnswered state h line a state' h'

pub data Answers : State → History → List (List ℕ) → List Answer → Type 0 where
  none : {state : State} {h : History} → Answers state h [] []
  more : {state state' : State} {h h' : History} {line : List ℕ} {rest : List (List ℕ)} {a : Answer} {answers : List Answer} →
      LineAnswered state h line a state' h' → Answers state' h' rest answers → Answers state h (line ∷ rest) (a ∷ answers)

-- the texts of the answers, from line n on
abbrev pub texts : ℕ → List Answer → List ℕ
texts n [] = []
texts n (a ∷ answers) = answer_line n a ++ texts (n + 1) answers

pub record Marked (sheet out : List ℕ) : Type 0 where
  pub short : length sheet ≤ 32768 → (answers : List Answer) × Answers State.SettingUp empty_history (lines sheet) answers × (out ≡ texts 1 answers)
  pub long : 32768 < length sheet → out ≡ answer_line 0 (Answer.Refused SheetFault.Unreadable)
