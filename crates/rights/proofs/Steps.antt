-- One step of a run from what the register's checks give: out of turn, refused, or carried out.
use Rattle.std.proofs.Common.{List, [], ◌∷◌, map, Some, None, Option, ap, ⊎_elim}
use Rattle.std.specs.Option.{option_map}
use Rattle.rights.specs.declared.commands.Answer.{Answer}
use Rattle.rights.specs.declared.commands.Command.{Command}
use Rattle.rights.specs.declared.commands.State.{State}
use Rattle.rights.specs.declared.entries.Entry.{Entry}
use Rattle.rights.specs.declared.faults.RegisterFault.{RegisterFault}
use Rattle.rights.specs.declared.faults.SheetFault.{SheetFault}
use Rattle.rights.specs.Checks.{Check, First, refuse}
use Rattle.rights.specs.History.{History, Becomes}
use Rattle.rights.specs.Refusals.{Lent, Takes, checks, sheet_checks}
use Rattle.rights.specs.Runs.{Step, Accepted, next_state}
use Rattle.rights.proofs.Checks.{first_none, first_hit, first_miss, first_cases, first_nothing}

-- the register's check as the sheet's
abbrev lifted : Check RegisterFault → Check SheetFault
lifted k = refuse (SheetFault.Register k.gives) k.when

lift_first : (cs : List (Check RegisterFault)) (r : Option RegisterFault) → First cs r → First (map lifted cs) (option_map SheetFault.Register r)
lift_first [] r h = first_none _ (ap (option_map SheetFault.Register) (first_nothing r h))
lift_first (c ∷ cs) r h = ⊎_elim
    (λ hit. rw hit.1 (first_hit (lifted c) (map lifted cs) hit.0))
    (λ miss. first_miss (lifted c) (map lifted cs) _ miss.0 (lift_first cs r miss.1))
    (first_cases c cs r h)

module _ (lent : Lent) (state : State) (h : History) (c : Command) where
  pub out_of_turn : (Takes state c → ⊥) → Step lent state h c [] (Answer.Refused SheetFault.OutOfTurn) state h
  unfolding sheet_checks
  out_of_turn not = Step.refused (first_hit _ _ not)

  module _ (takes : Takes state c) where
    in_turn : (r : Option RegisterFault) → First (checks lent h c) r → First (sheet_checks lent h state c) (option_map SheetFault.Register r)
    unfolding sheet_checks
    in_turn r first = first_miss _ _ _ (λ not. not takes) (lift_first (checks lent h c) r first)

    pub refused_step : (f : RegisterFault) → First (checks lent h c) (Some f) → Step lent state h c [] (Answer.Refused (SheetFault.Register f)) state h
    refused_step f first = Step.refused (in_turn (Some f) first)

    pub accepted_step : (a : Answer) (struck : List Entry) (h' : History) → First (checks lent h c) None → Accepted h c struck a → Becomes h c struck h' → Step lent state h c struck a (next_state state c) h'
    accepted_step a struck h' first answer becomes = Step.accepted (in_turn None first) answer becomes
