use Rattle.std.proofs.Common.{◌+◌, ◌<◌, length, get_or, take, set, sym, ap, ◌∙◌, subst, arith}
use Rattle.rising.specs.Fronts.{stored, Refilled}
use Rattle.book.specs.Cells.{unpacked, held, recounted}
use Rattle.book.proofs.Counts.{Counting, held_front, counting_from, counting_few, counting_more, long_now, no_cell}
use Rattle.book.proofs.Refused.{of_some}
use Rattle.book.proofs.packed.counts.recount.Goals as goal

pub held_by-count-requires-clause-few : goal.held_by-count-requires-clause-few
held_by-count-requires-clause-few c =
    omega (arith, ap (λ l. length (held (take c.args.i l))) c.as_slice.ensures, held_front c.args.i (stored c.args.front.now), c.requires.few)

pub loop-k-init : goal.loop-k-init
loop-k-init c = counting_from c.args.front.now c.args.i c.held_by-count.result c.requires.counted (c.held_by-count.ensures ∙ ap (λ l. length (held (take c.args.i l))) c.as_slice.ensures)

pub bounds-as_slice-k : goal.bounds-as_slice-k
bounds-as_slice-k c =
    let in' : c.loop-k.k < length (stored c.args.front.now) = omega (arith, c.loop-k-test.true, c.len-k-end.ensures) in
    omega (arith, ap length c.as_slice-in-loop-k.ensures, long_now c.args.front.now c.loop-k.front c.loop-k.k c.loop-k.count no_cell c.loop-k.invariant in')

pub overflow_add-count : goal.overflow_add-count
overflow_add-count c =
    let in' : c.loop-k.k < length (stored c.args.front.now) = omega (arith, c.loop-k-test.true, c.len-k-end.ensures) in
    let size = c.size-count.ensures ∙ ap (λ l. length (unpacked (get_or l c.loop-k.k no_cell))) c.as_slice-in-loop-k.ensures in
    omega (arith, size, counting_few c.args.front.now c.loop-k.front c.loop-k.k c.loop-k.count no_cell c.loop-k.invariant in', c.requires.few)

pub loop-k-preserved : goal.loop-k-preserved
loop-k-preserved c =
    let s = c.args.front.now in
    let now = c.loop-k.front in
    let k = c.loop-k.k in
    let n = c.loop-k.count in
    let in' : k < length (stored s) = omega (arith, c.loop-k-test.true, c.len-k-end.ensures) in
    let same = c.as_slice-in-loop-k.ensures in
    let size = c.size-count.ensures ∙ ap (λ l. length (unpacked (get_or l k no_cell))) same in
    let long = long_now s now k n no_cell c.loop-k.invariant in' in
    let to = of_some c.replace.result (stored now) k (omega arith) c.replace.ensures.gives c.replace.ensures.some in
    let written = subst (λ l. Refilled now (set (stored now) k (recounted (get_or l k no_cell) n)) c.replace.new.self) same to in
    subst (λ m. Counting s c.replace.new.self (k + 1) (n + m)) (sym size) (counting_more s now k n no_cell c.loop-k.invariant in' c.replace.new.self written)
