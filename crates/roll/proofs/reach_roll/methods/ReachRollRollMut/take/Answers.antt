use Rattle.std.proofs.Common.{◌≡◌, sym, ap, ◌∙◌, subst}
use mathlib.Core.Logic.{∥∥₁_map}
use Rattle.std.proofs.lemmas.Result.{err_from_is_err_and}
use Rattle.rising.specs.Fronts.{stored}
use Rattle.roll.specs.Pairs.{dropped}
use Rattle.roll.specs.ReachRolls.{pairs_of}
use Rattle.roll.specs.Tables.{Current, Renewed}
use Rattle.roll.proofs.Currents.{in_table, current_renewed}
use Rattle.roll.proofs.Puts.{take_bad}
use Rattle.roll.proofs.reach_roll.methods.ReachRollRollMut.take.Goals as goal

pub returns-in_err-p-clause-refuses : goal.returns-in_err-p-clause-refuses
returns-in_err-p-clause-refuses c =
    let x = c.args.self.now in
    let p = err_from_is_err_and c.from_residual.result c.from_residual.ensures.1 in
    rw (p.1, p.2, c.in_err-p.ensures.0) (take_bad (pairs_of x) c.args.m c.args.g c.in_err-p.ensures.1)

pub invariant_of-self : goal.invariant_of-self
invariant_of-self c = record { current = subst (λ K. ∥ Current K c.args.self.now.table ∥₁) (sym c.in_err-take.ensures.unchanged) c.args.self.now.current }

pub invariant_of-self-2 : goal.invariant_of-self-2
invariant_of-self-2 c =
    let x = c.args.self.now in
    let p = c.in_ok-p.p in
    let l = in_table p c.args.m c.args.g c.in_ok-p.ensures.1 c.in_ok-p.ensures.0 in
    let drops : stored c.take.new.self.front ≡ dropped p (pairs_of x) = c.in_ok-take.ensures.taken ∙ ap (λ q. dropped q (pairs_of x)) (sym c.in_ok-p.ensures.1) in
    let anew = subst (λ K. Renewed K p.member x.table c.renew.new.table) drops c.renew.ensures in
    record { current = ∥∥₁_map x.current (λ t. subst (λ K. Current K c.renew.new.table) (sym drops) (current_renewed (pairs_of x) p.member p.group l.0 l.1 x.table c.renew.new.table t anew)) }
