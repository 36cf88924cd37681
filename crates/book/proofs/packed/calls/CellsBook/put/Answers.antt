use Rattle.std.proofs.lemmas.Result.{err_from_is_err_and}
use Rattle.book.proofs.Refused.{put_improper}
use Rattle.book.proofs.packed.calls.CellsBook.put.Goals as goal

pub returns-in_err-in_range-clause-refuses : goal.returns-in_err-in_range-clause-refuses
returns-in_err-in_range-clause-refuses c =
    let p = err_from_is_err_and c.from_residual.result c.from_residual.ensures.1 in
    rw (p.1, p.2, c.in_err-in_range.ensures.0) (put_improper _ _ _ c.in_err-in_range.ensures.1)
