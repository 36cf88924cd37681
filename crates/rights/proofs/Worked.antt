-- The worked example: the tests of the rules compute its run.
use Rattle.std.proofs.Common.{◌≡◌, List, refl, subst₂}
use Rattle.rights.specs.declared.commands.Answer.{Answer}
use Rattle.rights.specs.declared.commands.Command.{Command}
use Rattle.rights.specs.declared.commands.State.{State}
use Rattle.rights.specs.declared.entries.Entry.{Entry}
use Rattle.rights.specs.History.{empty_history}
use Rattle.rights.specs.Runs.{Run}
use Rattle.rights.specs.Worked.{calls, Leads, LeadsOnly, worked_commands, worked_struck, worked_answers, Worked, WorkedNumbers}
use Rattle.rights.proofs.Outcomes.{Outcomes, outcome, outcomes, run_by, empty_sound}
use Rattle.rights.proofs.Runs.{run_same}

-- what the tests compute for a list of commands
unfoldable pub computed : List Command → Outcomes
unfolding outcomes outcome
computed commands = outcomes State.SettingUp empty_history (calls commands)

pub leads : (commands : List Command) (struck : List (List Entry)) (answers : List Answer) → (computed commands).struck ≡ struck → (computed commands).answers ≡ answers → Leads commands struck answers
unfolding computed
leads commands struck answers ks l =
    let o = outcomes State.SettingUp empty_history (calls commands) in
    (o.state, o.history, subst₂ (λ ks l. Run State.SettingUp empty_history (calls commands) ks l o.state o.history) ks l (run_by State.SettingUp empty_history (calls commands) empty_sound))

pub leads_only : (commands : List Command) (struck : List (List Entry)) (answers : List Answer) → Leads commands struck answers → LeadsOnly commands struck answers
leads_only commands struck answers w struck' answers' r = let s = run_same r.2 w.2 in (s.0, s.1)

worked_leads : Leads worked_commands worked_struck worked_answers
unfolding computed
worked_leads = leads worked_commands worked_struck worked_answers refl refl

pub worked_stands : Worked
worked_stands = (worked_leads, leads_only worked_commands worked_struck worked_answers worked_leads)

pub worked_numbers : WorkedNumbers
worked_numbers = (refl, refl, refl, refl)
