use Rattle.std.proofs.Common.{None, refl}
use Rattle.rights.specs.Refusals.{open_checks}
use Rattle.rights.proofs.Checks.{first_miss, first_none}
use Rattle.sitting.proofs.states.SettingUp.open.Goals as goal

pub returns-clause-verdict : goal.returns-clause-verdict
unfolding open_checks
returns-clause-verdict c =
    let someone = c.has_person.ensures.0 c.if-not-has_person.false in
    first_miss _ _ _ (λ nobody. nobody someone.0 someone.1) (first_none None refl)
