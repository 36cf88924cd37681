use Rattle.std.proofs.Common.{Some, None}
use Rattle.std.proofs.lemmas.Result.{err_from_is_err_and}
use Rattle.book.proofs.Makes.{checked}
use Rattle.book.proofs.plain.Plain.check.Goals as goal

pub returns-in_err-check_room : goal.returns-in_err-check_room
returns-in_err-check_room c =
    let p = err_from_is_err_and c.from_residual.result c.from_residual.ensures.1 in
    rw (p.1, p.2) (checked _ _ (Some _) c.in_err-check_room.ensures)

pub returns : goal.returns
returns c = checked _ _ None c.in_ok-check_room.ensures
