use Rattle.std.proofs.lemmas.Result.{err_from_is_err_and}
use Rattle.book.specs.Packing.{packed}
use Rattle.book.proofs.Packs.{cell_absent}
use Rattle.book.proofs.Refused.{take_improper, take_absent}
use Rattle.book.proofs.packed.calls.CellsBook.take.Goals as goal

pub returns-in_err-in_range-clause-refuses : goal.returns-in_err-in_range-clause-refuses
returns-in_err-in_range-clause-refuses c =
    let p = err_from_is_err_and c.from_residual.result c.from_residual.ensures.1 in
    rw (p.1, p.2, c.in_err-in_range.ensures.0) (take_improper _ 0 _ c.in_err-in_range.ensures.1)

pub returns-in_err-i-clause-refuses : goal.returns-in_err-i-clause-refuses
returns-in_err-i-clause-refuses c =
    let b = c.args.self.now in
    let p = err_from_is_err_and c.from_residual-in_err-i.result c.from_residual-in_err-i.ensures.1 in
    let t = cell_absent b c.args.e c.cell_of.result _ c.cell_of.ensures c.ok.ensures.value c.ok_or.ensures.value c.in_err-i.was in
    rw (p.1, p.2, t.1) (take_absent (packed b) 0 c.args.e c.in_ok-in_range.ensures t.0)
