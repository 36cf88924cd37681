use Rattle.std.proofs.Common.{None, sym, subst}
use mathlib.Core.Logic.{∥∥₁_map}
use Rattle.std.proofs.lemmas.Result.{err_from_is_err_and}
use Rattle.std.proofs.lemmas.Bool.Decides.{not_from_Decides}
use Rattle.roll.specs.ReachRolls.{pairs_of, ceiling_of}
use Rattle.roll.specs.Tables.{Current, says}
use Rattle.roll.proofs.Currents.{in_table, current_sure, current_joined}
use Rattle.roll.proofs.Places.{gap_absent}
use Rattle.roll.proofs.Puts.{put_bad, put_taken, put_loop, put_full, addable}
use Rattle.roll.proofs.reach_roll.methods.ReachRollRollMut.put.Goals as goal

pub returns-in_err-p-clause-refuses : goal.returns-in_err-p-clause-refuses
returns-in_err-p-clause-refuses c =
    let x = c.args.self.now in
    let p = err_from_is_err_and c.from_residual.result c.from_residual.ensures.1 in
    rw (p.1, p.2, c.in_err-p.ensures.0) (put_bad (pairs_of x) c.args.m c.args.g (ceiling_of x) c.in_err-p.ensures.1)

pub returns-in_err-k-clause-refuses : goal.returns-in_err-k-clause-refuses
returns-in_err-k-clause-refuses c =
    let x = c.args.self.now in
    let p = err_from_is_err_and c.from_residual-in_err-k.result c.from_residual-in_err-k.ensures.1 in
    rw (p.1, p.2, c.in_err-k.ensures.0) (put_taken (pairs_of x) c.args.m c.args.g (ceiling_of x) c.in_ok-p.p c.in_ok-p.ensures.1 c.in_ok-p.ensures.0 c.in_err-k.ensures.1)

pub returns-then-self-from-clause-refuses : goal.returns-then-self-from-clause-refuses
returns-then-self-from-clause-refuses c =
    let x = c.args.self.now in
    let p = c.in_ok-p.p in
    let l = in_table p c.args.m c.args.g c.in_ok-p.ensures.1 c.in_ok-p.ensures.0 in
    put_loop (pairs_of x) c.args.m c.args.g (ceiling_of x) p c.in_ok-p.ensures.1 c.in_ok-p.ensures.0 (gap_absent (pairs_of x) p c.in_ok-k.k c.in_ok-k.ensures)
    ((current_sure (pairs_of x) x.table x.current p.group p.member l.1 l.0).0 (rw (c.from.ensures, c.from-2.ensures) at c.if-self-from.true))

pub add-requires-clause-may : goal.add-requires-clause-may
add-requires-clause-may c =
    let x = c.args.self.now in
    let p = c.in_ok-p.p in
    let l = in_table p c.args.m c.args.g c.in_ok-p.ensures.1 c.in_ok-p.ensures.0 in
    addable (pairs_of x) c.args.m c.args.g (ceiling_of x) p c.in_ok-p.ensures.1 c.in_ok-p.ensures.0 (gap_absent (pairs_of x) p c.in_ok-k.k c.in_ok-k.ensures)
    (not_from_Decides (says x.table p.group p.member) (current_sure (pairs_of x) x.table x.current p.group p.member l.1 l.0) (rw (c.from.ensures, c.from-2.ensures) at c.if-self-from.false))

pub invariant_of-self : goal.invariant_of-self
invariant_of-self c = record { current = subst (λ K. ∥ Current K c.args.self.now.table ∥₁) (sym c.in_err-add.ensures.unchanged) c.args.self.now.current }

pub returns-in_err-add-clause-refuses : goal.returns-in_err-add-clause-refuses
returns-in_err-add-clause-refuses c =
    let x = c.args.self.now in
    let p = c.in_ok-p.p in
    let l = in_table p c.args.m c.args.g c.in_ok-p.ensures.1 c.in_ok-p.ensures.0 in
    let e = err_from_is_err_and c.from_residual-in_err-add.result c.from_residual-in_err-add.ensures.1 in
    rw (e.1, e.2)
    (put_full (pairs_of x) c.args.m c.args.g (ceiling_of x) p c.in_ok-p.ensures.1 c.in_ok-p.ensures.0 (gap_absent (pairs_of x) p c.in_ok-k.k c.in_ok-k.ensures)
    (not_from_Decides (says x.table p.group p.member) (current_sure (pairs_of x) x.table x.current p.group p.member l.1 l.0) (rw (c.from.ensures, c.from-2.ensures) at c.if-self-from.false)) _ c.in_err-add.ensures.refuses)

pub invariant_of-self-2 : goal.invariant_of-self-2
invariant_of-self-2 c =
    let x = c.args.self.now in
    let p = c.in_ok-p.p in
    let l = in_table p c.args.m c.args.g c.in_ok-p.ensures.1 c.in_ok-p.ensures.0 in
    record { current = ∥∥₁_map x.current (λ t. subst (λ K. Current K c.join.new.table) (sym c.in_ok-add.ensures.put) (current_joined (pairs_of x) p.member p.group l.0 l.1 x.table c.join.new.table t c.join.ensures)) }

pub returns-clause-refuses : goal.returns-clause-refuses
returns-clause-refuses c =
    let x = c.args.self.now in
    let p = c.in_ok-p.p in
    let l = in_table p c.args.m c.args.g c.in_ok-p.ensures.1 c.in_ok-p.ensures.0 in
    put_full (pairs_of x) c.args.m c.args.g (ceiling_of x) p c.in_ok-p.ensures.1 c.in_ok-p.ensures.0 (gap_absent (pairs_of x) p c.in_ok-k.k c.in_ok-k.ensures)
    (not_from_Decides (says x.table p.group p.member) (current_sure (pairs_of x) x.table x.current p.group p.member l.1 l.0) (rw (c.from.ensures, c.from-2.ensures) at c.if-self-from.false)) None c.in_ok-add.ensures.refuses
