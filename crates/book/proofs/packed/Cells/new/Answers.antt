use Rattle.std.proofs.Common.{[], length, ap, ◌∙◌, arith}
use Rattle.rights.specs.Entries.{sound}
use Rattle.rights.proofs.Order.{sound_from}
use Rattle.book.specs.Cells.{held, climbs, numbered}
use Rattle.book.proofs.Makes.{granted_ceiling}
use Rattle.book.proofs.packed.Cells.new.Goals as goal

pub invariant_of-result : goal.invariant_of-result
unfolding climbs numbered
invariant_of-result c =
    let empty = c.over-front.ensures.empty in
    record {
      counted = omega (arith, ap (λ l. length (held l)) empty);
      room = omega (arith, ap length c.over-front.ensures.untouched, c.ceiling-ceiling.ensures.room);
      limited = c.ceiling-ceiling.ensures.limit;
      rises = ap (λ l. sound (held l)) empty ∙ sound_from [] tt tt;
      keys = ap climbs empty;
      sums = ap (numbered 0) empty;
    }

pub returns-clause-ceiling : goal.returns-clause-ceiling
returns-clause-ceiling c = granted_ceiling _ _ _ c.ceiling-ceiling.ensures.granted
