use Rattle.std.proofs.Common.{◌≡◌, ◌∙◌, ltb, rules, arith}
use Rattle.std.specs.Ordering.{is_lt}
use Rattle.std.proofs.lemmas.List.Sorted.{IsPartitionPoint-from_clause}
use Rattle.rights.specs.Bits.{bit, rows}
use Rattle.rights.specs.contracts.vocabulary.RightOrd.TheImpl as right_ord
use Rattle.book.proofs.Table.{rows_parted, rows_below, is_below}
use Rattle.book.proofs.order.bit_number.Goals as goal

pub returns : goal.returns
returns c =
    let p = IsPartitionPoint-from_clause (λ r. ltb (bit r) (bit c.args.right)) rows c.partition_point.result c.partition_point.ensures.partitioned (rows_parted c.args.right)
    (λ a r q k. let t : r ≡ is_lt ((right_ord.ghosts).cmp a.0.now c.args.right) = search rules in (t ∙ is_below _ _, search rules)) in
    rows_below c.args.right _ p (omega (arith, c.partition_point.ensures.bound))
