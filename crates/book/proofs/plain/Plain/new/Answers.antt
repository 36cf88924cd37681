use Rattle.std.proofs.Common.{[], length, ap, ◌∙◌, arith}
use Rattle.rights.specs.Entries.{sound}
use Rattle.rights.proofs.Order.{sound_from}
use Rattle.book.proofs.Makes.{granted_ceiling}
use Rattle.book.proofs.plain.Plain.new.Goals as goal

pub invariant_of-result : goal.invariant_of-result
invariant_of-result c =
    let empty = c.over-front.ensures.empty in
    record {
      counted = omega (arith, ap length empty);
      room = omega (arith, ap length c.over-front.ensures.untouched, c.ceiling-ceiling.ensures.room);
      limited = c.ceiling-ceiling.ensures.limit;
      rises = ap sound empty ∙ sound_from [] tt tt;
    }

pub returns-clause-ceiling : goal.returns-clause-ceiling
returns-clause-ceiling c = granted_ceiling _ _ _ c.ceiling-ceiling.ensures.granted
