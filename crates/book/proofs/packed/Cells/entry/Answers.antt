use Rattle.std.proofs.Common.{◌≡◌, leb, true, sym, ap, subst, ◌∙◌, rules}
use Rattle.std.specs.List.{slice_get}
use Rattle.std.specs.Option.{option_copied}
use Rattle.std.proofs.lemmas.List.Sorted.{IsPartitionPoint-from_clause, IsPartitionedBy-leb}
use Rattle.book.specs.Cells.{numbered, held}
use Rattle.book.proofs.Reading.{counts_rise, none_found, cell_starts, cell_has}
use Rattle.book.proofs.packed.Cells.entry.Goals as goal

pub returns-in_err-cell : goal.returns-in_err-cell
returns-in_err-cell c =
    let list = c.as_slice-cells.result.now in
    let sums = subst (λ l. numbered 0 l ≡ true) (sym c.as_slice-cells.ensures) c.args.self.now.sums in
    let p = IsPartitionPoint-from_clause (λ x. leb x.earlier c.args.k) list c.partition_point.result c.partition_point.ensures.partitioned (IsPartitionedBy-leb (λ x. x.earlier) list c.args.k (counts_rise list sums c.args.k)) (λ a r q k. search rules) in
    let none = none_found list sums c.args.k c.partition_point.result c.partition_point.ensures.bound p (sym c.last.ensures.value ∙ ap option_copied c.in_err-cell.was) in
    c.from_residual.ensures ∙ sym none ∙ ap (λ l. slice_get (held l) c.args.k) c.as_slice-cells.ensures

pub overflow_sub-k : goal.overflow_sub-k
overflow_sub-k c =
    let list = c.as_slice-cells.result.now in
    let sums = subst (λ l. numbered 0 l ≡ true) (sym c.as_slice-cells.ensures) c.args.self.now.sums in
    let p = IsPartitionPoint-from_clause (λ x. leb x.earlier c.args.k) list c.partition_point.result c.partition_point.ensures.partitioned (IsPartitionedBy-leb (λ x. x.earlier) list c.args.k (counts_rise list sums c.args.k)) (λ a r q k. search rules) in
    cell_starts list sums c.args.k c.partition_point.result c.partition_point.ensures.bound p c.in_ok-cell.cell.now (sym c.last.ensures.value ∙ ap option_copied c.in_ok-cell.was)

pub returns : goal.returns
returns c =
    let list = c.as_slice-cells.result.now in
    let sums = subst (λ l. numbered 0 l ≡ true) (sym c.as_slice-cells.ensures) c.args.self.now.sums in
    let p = IsPartitionPoint-from_clause (λ x. leb x.earlier c.args.k) list c.partition_point.result c.partition_point.ensures.partitioned (IsPartitionedBy-leb (λ x. x.earlier) list c.args.k (counts_rise list sums c.args.k)) (λ a r q k. search rules) in
    let has = cell_has list sums c.args.k c.partition_point.result c.partition_point.ensures.bound p c.in_ok-cell.cell.now (sym c.last.ensures.value ∙ ap option_copied c.in_ok-cell.was) in
    c.entry_at.ensures ∙ has ∙ ap (λ l. slice_get (held l) c.args.k) c.as_slice-cells.ensures
