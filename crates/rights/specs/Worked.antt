-- The worked example: thirty commands in order, from the empty history, with the answers that the rules give.
-- Leads: what a list of commands leads to. worked_commands, worked_answers, worked_struck: the example, line by line.
-- Worked: the commands have a run with these answers and these struck entries, and no run of them has others.
use Rattle.std.specs.Prelude.{◌≡◌, ℕ, List, [], ◌∷◌, ◌++◌, map, replicate}
use Rattle.std.proofs.Common.{lit≤}
use Rattle.rights.specs.declared.commands.Answer.{Answer}
use Rattle.rights.specs.declared.commands.Command.{Command}
use Rattle.rights.specs.declared.commands.Ground.{Ground}
use Rattle.rights.specs.declared.commands.Named.{Named}
use Rattle.rights.specs.declared.commands.State.{State}
use Rattle.rights.specs.declared.entries.Entry.{Entry}
use Rattle.rights.specs.declared.faults.RegisterFault.{RegisterFault}
use Rattle.rights.specs.declared.faults.SheetFault.{SheetFault}
use Rattle.rights.specs.Faults.{number, layer}
use Rattle.rights.specs.History.{History, empty_history}
use Rattle.rights.specs.Read.{access_entry, admin_entry}
use Rattle.rights.specs.Runs.{Call, Run}

-- table t alone
abbrev pub naming : ℕ → Named
naming t = record { count = 1; tables = t ∷ replicate 13 0; few = lit≤ tt }

-- every call is lent a slate and a list of 4096, over a book of 4096 and a roll of 2048
abbrev pub calls : List Command → List Call
calls commands = map (λ c. record { lent = record { slate = 4096; list = 4096; book_ceiling = 4096; roll_ceiling = 2048 }; command = c }) commands

-- from the empty history, these commands strike these entries and have these answers
abbrev pub Leads : List Command → List (List Entry) → List Answer → Type 0
Leads commands struck answers = (state : State) × (h : History) × Run State.SettingUp empty_history (calls commands) struck answers state h

-- and they have no others
abbrev pub LeadsOnly : List Command → List (List Entry) → List Answer → Type 0
LeadsOnly commands struck answers = (struck' : List (List Entry)) (answers' : List Answer) → Leads commands struck' answers' → (struck' ≡ struck) × (answers' ≡ answers)

abbrev pub worked_commands : List Command
worked_commands =
    Command.User 1 1 ∷  -- 1
    Command.User 2 0 ∷  -- 2
    Command.User 3 0 ∷  -- 3
    Command.Group 10 ∷  -- 4
    Command.Group 11 ∷  -- 5
    Command.Group 12 ∷  -- 6
    Command.Open ∷  -- 7
    Command.Admit 0 2 10 ∷  -- 8
    Command.Admit 0 2 11 ∷  -- 9
    Command.Admit 0 10 12 ∷  -- 10
    Command.Admit 0 11 12 ∷  -- 11
    Command.Base 1 5 ∷  -- 12
    Command.Give 1 12 0 0 5 0 ∷  -- 13: a weak plus for group 12
    Command.May 2 0 5 ∷  -- 14
    Command.Give 1 10 0 1 5 0 ∷  -- 15: a weak minus for group 10
    Command.May 2 0 5 ∷  -- 16
    Command.Give 1 2 0 0 5 0 ∷  -- 17: a weak plus for person 2
    Command.May 2 0 5 ∷  -- 18
    Command.View 1 6 (naming 5) ∷  -- 19
    Command.Give 1 10 0 0 6 0 ∷  -- 20: a weak plus for group 10 on the view
    Command.May 2 0 6 ∷  -- 21
    Command.Give 1 11 0 1 5 1 ∷  -- 22: a strong minus for group 11
    Command.May 2 0 5 ∷  -- 23
    Command.May 2 0 6 ∷  -- 24
    Command.May 1 0 6 ∷  -- 25
    Command.Give 1 2 0 0 6 1 ∷  -- 26: a strong plus on the view, against that minus
    Command.Lend 1 3 0 5 0 0 ∷  -- 27: weak adm-access for person 3
    Command.Give 3 2 0 0 5 0 ∷  -- 28: person 3 grants a weak plus
    Command.Give 3 2 0 1 5 1 ∷  -- 29: person 3 would grant a strong minus
    Command.Unlend 1 3 0 5 0 0 ∷  -- 30: what person 3 was lent is withdrawn
    []

abbrev pub clash_found : SheetFault
clash_found = SheetFault.Register RegisterFault.Clash

abbrev pub mandate_lacking : SheetFault
mandate_lacking = SheetFault.Register RegisterFault.NoMandate

abbrev pub worked_answers : List Answer
worked_answers =
    replicate 13 Answer.Done ++  -- 1 to 13
    (Answer.Yes Ground.Weak ∷  -- 14, marked: the weak plus of group 12 reaches person 2
    Answer.Done ∷  -- 15
    Answer.No Ground.Nothing ∷  -- 16, marked: the minus of group 10 applies too
    Answer.Done ∷  -- 17
    Answer.Yes Ground.Weak ∷  -- 18, marked: person 2's own plus stops that minus
    Answer.Done ∷  -- 19
    Answer.Done ∷  -- 20
    Answer.Yes Ground.Weak ∷  -- 21, marked
    Answer.Done ∷  -- 22
    Answer.No Ground.Strong ∷  -- 23, marked: the strong minus of group 11
    Answer.No Ground.Strong ∷  -- 24, marked: that minus stands beneath the view
    Answer.Yes Ground.Named ∷  -- 25, marked: the view's owner, by the table that it names
    Answer.Refused clash_found ∷  -- 26, marked
    Answer.Done ∷  -- 27
    Answer.Done ∷  -- 28
    Answer.Refused mandate_lacking ∷  -- 29, marked
    Answer.Struck 2 ∷  -- 30, marked
    [])

-- line 30 strikes what person 3 granted to person 2, and what was lent to person 3; no other line strikes anything
abbrev pub worked_struck : List (List Entry)
worked_struck = replicate 29 [] ++ ((access_entry 3 2 0 0 5 0 ∷ admin_entry 1 3 0 5 0 0 ∷ []) ∷ [])

abbrev pub Worked : Type 0
Worked = Leads worked_commands worked_struck worked_answers × LeadsOnly worked_commands worked_struck worked_answers

-- the two refusals are 13 and 9, both of layer 2
abbrev pub WorkedNumbers : Type 0
WorkedNumbers = (number clash_found ≡ 13) × (layer clash_found ≡ 2) × (number mandate_lacking ≡ 9) × (layer mandate_lacking ≡ 2)
