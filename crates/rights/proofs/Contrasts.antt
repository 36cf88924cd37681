-- The contrasts, computed by the tests of the rules.
use Rattle.std.proofs.Common.{◌≡◌, ℕ, false, [], refl, subst, ⊎_elim}
use Rattle.std.proofs.lemmas.Bool.Decides.{not_from_Decides}
use Rattle.rights.specs.declared.entries.Entry.{Entry}
use Rattle.rights.specs.Contrasts.{Example, commands_of, struck_of, answers_of, Shows, delegates, oneself, every_named, one_entry, EachOther, Itself, owned_five}
use Rattle.rights.specs.Cover.{Supported}
use Rattle.rights.specs.Read.{admin_entry}
use Rattle.rights.proofs.Chain.{closed_round}
use Rattle.rights.proofs.Cover.{supported_test, decides_supported}
use Rattle.rights.proofs.Scenes.{base_low}
use Rattle.rights.proofs.Tables.{Low}
use Rattle.rights.proofs.Worked.{computed, leads}

shown : (x : Example) → (computed (commands_of x)).struck ≡ struck_of x → (computed (commands_of x)).answers ≡ answers_of x → Shows x
shown x = leads (commands_of x) (struck_of x) (answers_of x)

pub shows_delegates : Shows delegates
unfolding computed
shows_delegates = shown delegates refl refl

pub shows_oneself : Shows oneself
unfolding computed
shows_oneself = shown oneself refl refl

pub shows_every_named : Shows every_named
unfolding computed
shows_every_named = shown every_named refl refl

pub shows_one_entry : Shows one_entry
unfolding computed
shows_one_entry = shown one_entry refl refl

five_low : (t : ℕ) → Low owned_five 0 t
five_low = base_low 0 5 1

unsupported : (e : Entry) → supported_test owned_five 0 [] e ≡ false → Supported owned_five [] e → ⊥
unsupported e h = not_from_Decides _ (decides_supported owned_five 0 [] e (five_low e.table)) h

pub each_other : EachOther
each_other = closed_round owned_five _ [] (λ e i s. absurd (⊎_elim (λ q. unsupported (admin_entry 2 3 0 5 1 1) refl (subst (Supported owned_five []) q s)) (λ j. ⊎_elim (λ q. unsupported (admin_entry 3 2 0 5 1 1) refl (subst (Supported owned_five []) q s)) (λ k. k) j) i))

pub itself : Itself
itself = closed_round owned_five _ [] (λ e i s. absurd (⊎_elim (λ q. unsupported (admin_entry 2 2 0 5 1 1) refl (subst (Supported owned_five []) q s)) (λ k. k) i))
