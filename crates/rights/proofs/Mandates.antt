-- The laws of cover, chains and runs, put together.
use Rattle.std.proofs.Common.{◌≡◌, [], Some, subst}
use Rattle.rights.specs.declared.commands.Answer.{Answer}
use Rattle.rights.specs.declared.commands.State.{State}
use Rattle.rights.specs.History.{empty_history}
use Rattle.rights.specs.Checks.{First}
use Rattle.rights.specs.Lists.{In}
use Rattle.rights.specs.Mandates.{MandateLaws, RunLaws, SurvivorsFixed, RefusedFirst, RunFound}
use Rattle.rights.specs.Refusals.{sheet_checks}
use Rattle.rights.specs.Runs.{Step, refused}
use Rattle.rights.proofs.Chain.{has_chain_grows, has_chain_stands, has_chain_supported, supported_has_chain, closed_round, chain_or_not, revoked_same, revoked_total, revoked_named, kept_upheld, granted_upheld, has_chain_extends, dropped_upheld}
use Rattle.rights.proofs.Cover.{covers_grows, supported_grows, covers_or_not}
use Rattle.rights.proofs.Outcomes.{outcomes, run_by, empty_sound}
use Rattle.rights.proofs.Runs.{step_same, run_same, refused_first, accepted_first, first_accepted}

fixed : SurvivorsFixed
fixed tables entries left are e = (
  (λ i.
      let c = (are e).0 i in
      let s = has_chain_supported tables (λ f. In f entries) e c in
      (has_chain_stands tables (λ f. In f entries) e c, supported_grows tables s.0 left (λ f j. (are f).1 (s.1 f j)) e s.2)),
  λ h. (are e).1 (supported_has_chain tables (λ f. In f entries) e h.0 left (λ f j. (are f).0 j) h.1),
)

pub mandate_laws : MandateLaws
mandate_laws =
    record {
      cover_grows = λ tables es fs more x k r p t. covers_grows tables es fs more;
      cover_told = λ tables es levels x k r p t. covers_or_not tables es x k r p levels t;
      chain_grows = λ tables es fs more. has_chain_grows tables (λ f. In f es) (λ f. In f fs) more;
      chain_told = λ tables es levels. chain_or_not tables levels es;
      survivors_fixed = fixed;
      survivors_least = λ tables entries. closed_round tables (λ f. In f entries);
      revoked_once = λ tables e entries. (revoked_same tables e entries, (λ levels. revoked_total tables levels e entries), revoked_named tables e entries);
      upheld_stays = λ tables e entries. (kept_upheld tables e entries, granted_upheld tables entries e);
      upheld_tables = λ tables entries all. ((λ more keeps e i. has_chain_extends tables more keeps (λ f. In f entries) e (all e i)), λ t kept out free p. dropped_upheld tables t free entries kept out p all);
    }

refusals : RefusedFirst
refusals lent state h c k a s g f x = (((λ e. (told e).0), λ p. (step_same x (refused p)).1), λ e. let r = told e in (r.1, r.2, r.3))
  where
    told : a ≡ Answer.Refused f → First (sheet_checks lent h state c) (Some f) × (k ≡ []) × (s ≡ state) × (g ≡ h)
    told e = refused_first (subst (λ b. Step lent state h c k b s g) e x)

found : RunFound
found cs = let o = outcomes State.SettingUp empty_history cs in (o.struck, o.answers, o.state, o.history, run_by State.SettingUp empty_history cs empty_sound)

pub run_laws : RunLaws
run_laws =
    record {
      one_outcome = λ lent state h c k k' a a' s s' g g'. step_same;
      refused_first = refusals;
      accepted_rest = λ lent state h c k a s g x. ((λ n. (accepted_first x n).0), first_accepted x);
      run_found = found;
      run_once = λ state h cs ks ks' l l' s s' g g'. run_same;
    }
