use Rattle.std.proofs.Common.{None, Some}
use Rattle.std.proofs.lemmas.Result.{err_from_is_err_and}
use Rattle.roll.proofs.Makings.{make_refusals}
use Rattle.roll.proofs.pair_roll.PairRoll.check.Goals as goal

pub returns-in_err-check_room : goal.returns-in_err-check_room
returns-in_err-check_room c =
    let p = err_from_is_err_and c.from_residual.result c.from_residual.ensures.1 in
    rw (p.1, p.2) (make_refusals _ c.args.ceiling (Some c.in_err-check_room.field-0.0) c.in_err-check_room.ensures)

pub returns : goal.returns
returns c = make_refusals _ c.args.ceiling None c.in_ok-check_room.ensures
