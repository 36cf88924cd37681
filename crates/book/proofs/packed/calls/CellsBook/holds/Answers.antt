use Rattle.std.proofs.Common.{◌≡◌, get_or, ap, ◌∙◌, rules}
use Rattle.rights.specs.Bits.{bit}
use Rattle.book.specs.Cells.{has}
use Rattle.book.proofs.Counts.{no_cell}
use Rattle.book.proofs.Packs.{asked}
use Rattle.book.proofs.packed.calls.CellsBook.holds.Goals as goal

pub returns : goal.returns
returns c =
    asked c.args.self.now c.args.e c.cell_of.result c.is_ok_and.result _ c.cell_of.ensures c.is_ok_and.ensures
    (λ i post.
    let read : c.is_ok_and.result ≡ has (get_or c.as_slice-cells.result.now i no_cell).rights (bit c.args.e.right) = search rules in
    read ∙ ap (λ l. has (get_or l i no_cell).rights (bit c.args.e.right)) c.as_slice-cells.ensures)
