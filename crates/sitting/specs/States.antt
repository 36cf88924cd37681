-- How many commands a sitting has carried out, in each of its states.
use Rattle.std.specs.Prelude.{ℕ}
use Rattle.sitting.specs.declared.states.Closed.{Closed}
use Rattle.sitting.specs.declared.states.Open.{Open}
use Rattle.sitting.specs.declared.states.SettingUp.{SettingUp}

abbrev pub setting_up_carried : SettingUp → ℕ
setting_up_carried s = s.tally.carried

abbrev pub open_carried : Open → ℕ
open_carried s = s.tally.carried

abbrev pub closed_carried : Closed → ℕ
closed_carried s = s.tally.carried
