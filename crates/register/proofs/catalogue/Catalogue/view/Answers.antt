use Rattle.std.proofs.Common.{◌≡◌, ℕ, is_some, IfSome, Some, subst, List, [], ◌∷◌, Ok, Err, Result, sym, ap, ◌∙◌, rules, arith}
use Rattle.std.specs.Result.{IsErr}
use Rattle.std.proofs.lemmas.Bool.{false≢true}
use Rattle.rights.specs.declared.faults.RegisterFault.{RegisterFault}
use Rattle.rights.specs.Checks.{First, fault_of, refuse}
use Rattle.rights.specs.Refusals.{WellMade, view_checks}
use Rattle.rights.specs.Subjects.{Subjects}
use Rattle.rights.specs.Tables.{Tables}
use Rattle.rights.proofs.Checks.{first_early}
use Rattle.register.specs.Catalogue.{making_checks}
use Rattle.register.specs.Rows.{stand, rise, level_over}
use Rattle.register.proofs.Levels.{stand_from, made_parts}
use Rattle.register.proofs.Whole.{sound}
use Rattle.register.proofs.catalogue.Catalogue.view.Goals as goal

-- what is refused before the make-up is refused of a view
refused : {T : Type 0} (subjects : Subjects) (tables : Tables) (i t : ℕ) (ds : List ℕ) (r : Result T RegisterFault) → IsErr r → First (making_checks subjects tables i t ds) (fault_of r) → First (view_checks subjects tables i t ds) (fault_of r)
unfolding view_checks
refused subjects tables i t ds (Ok x) e h = absurd (false≢true e)
refused subjects tables i t ds (Err f) e h = first_early (making_checks subjects tables i t ds) (refuse RegisterFault.MakeUp (WellMade tables ds → ⊥) ∷ []) f h

pub returns-in_err-owner-clause-verdict : goal.returns-in_err-owner-clause-verdict
returns-in_err-owner-clause-verdict c = refused _ _ _ _ _ _ c.from_residual.ensures.0 (search rules)

pub add-requires : goal.add-requires
add-requires c =
    let s = c.args.self.now in
    let xs = c.args.names.now in
    let allowed = c.in_ok-owner.ensures.allowed in
    let found : c.view_level.result ≡ Some c.in_ok-level.level = c.in_ok-level.ensures.ok_part in
    let made = made_parts _ _ (sound s) xs (c.view_level.ensures.made.0 (ap is_some found)) in
    let is = subst (λ o. IfSome o (λ x. x ≡ level_over s.tables xs)) found c.view_level.ensures.value in
    let same = c.record_of.ensures.names in
    let level = c.record_of.ensures.level ∙ is in
    record {
      within = allowed.within;
      free = allowed.free;
      owned = rw (c.record_of.ensures.owner, c.in_ok-owner.ensures.owner) allowed.owned;
      few = c.record_of.ensures.count;
      blank = c.record_of.ensures.blank;
      standing = ap (stand s.tables) same ∙ stand_from s.tables xs allowed.standing;
      rising = ap rise same ∙ made.2;
      levelled = level ∙ sym (ap (level_over s.tables) same);
      low = omega (arith, level, made.3);
    }
