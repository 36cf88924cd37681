use Rattle.std.proofs.Common.{false, get_or}
use Rattle.std.proofs.lemmas.Result.{err_from_is_err_and}
use Rattle.std.proofs.lemmas.Bool.Decides.{not_from_Decides}
use Rattle.roll.specs.PairRolls.{pairs_of}
use Rattle.roll.proofs.Places.{gap_absent}
use Rattle.roll.proofs.Puts.{put_bad, put_taken, put_loop, put_full, addable}
use Rattle.roll.proofs.pair_roll.methods.PairRollRollMut.put.Goals as goal

pub returns-in_err-p-clause-refuses : goal.returns-in_err-p-clause-refuses
returns-in_err-p-clause-refuses c =
    let x = c.args.self.now in
    let p = err_from_is_err_and c.from_residual.result c.from_residual.ensures.1 in
    rw (p.1, p.2, c.in_err-p.ensures.0) (put_bad (pairs_of x) c.args.m c.args.g x.most c.in_err-p.ensures.1)

pub returns-in_err-k-clause-refuses : goal.returns-in_err-k-clause-refuses
returns-in_err-k-clause-refuses c =
    let x = c.args.self.now in
    let p = err_from_is_err_and c.from_residual-in_err-k.result c.from_residual-in_err-k.ensures.1 in
    rw (p.1, p.2, c.in_err-k.ensures.0) (put_taken (pairs_of x) c.args.m c.args.g x.most c.in_ok-p.p c.in_ok-p.ensures.1 c.in_ok-p.ensures.0 c.in_err-k.ensures.1)

pub returns-then-reached-from-clause-refuses : goal.returns-then-reached-from-clause-refuses
returns-then-reached-from-clause-refuses c =
    let x = c.args.self.now in
    put_loop (pairs_of x) c.args.m c.args.g x.most c.in_ok-p.p c.in_ok-p.ensures.1 c.in_ok-p.ensures.0 (gap_absent (pairs_of x) c.in_ok-p.p c.in_ok-k.k c.in_ok-k.ensures)
    ((c.reached.ensures c.in_ok-p.p.member).0 (rw c.from.ensures at c.if-reached-from.true))

pub add-requires-clause-may : goal.add-requires-clause-may
add-requires-clause-may c =
    let x = c.args.self.now in
    addable (pairs_of x) c.args.m c.args.g x.most c.in_ok-p.p c.in_ok-p.ensures.1 c.in_ok-p.ensures.0 (gap_absent (pairs_of x) c.in_ok-p.p c.in_ok-k.k c.in_ok-k.ensures)
    (not_from_Decides (get_or c.reached.result c.in_ok-p.p.member false) (c.reached.ensures c.in_ok-p.p.member) (rw c.from.ensures at c.if-reached-from.false))

pub returns-clause-refuses : goal.returns-clause-refuses
returns-clause-refuses c =
    let x = c.args.self.now in
    put_full (pairs_of x) c.args.m c.args.g x.most c.in_ok-p.p c.in_ok-p.ensures.1 c.in_ok-p.ensures.0 (gap_absent (pairs_of x) c.in_ok-p.p c.in_ok-k.k c.in_ok-k.ensures)
    (not_from_Decides (get_or c.reached.result c.in_ok-p.p.member false) (c.reached.ensures c.in_ok-p.p.member) (rw c.from.ensures at c.if-reached-from.false)) _ c.add.ensures.refuses
