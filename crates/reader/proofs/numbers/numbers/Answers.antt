use Rattle.std.proofs.Common.{◌≡◌, ◌<◌, [], ◌∷◌, ◌++◌, length, arith}
use Rattle.std.proofs.lemmas.Grind.{common_steps}
use Rattle.reader.proofs.Series.{one_more, no_number, too_many}
use Rattle.reader.proofs.numbers.numbers.Goals as goal

pub returns-in_err-number : goal.returns-in_err-number
returns-in_err-number c = rw c.from_residual.ensures (no_number _ c.loop-part.invariant c.in-Some.ensures.steps.first c.in_err-number.ensures)

pub returns-in_err-ok : goal.returns-in_err-ok
returns-in_err-ok c = rw c.from_residual-in_err-ok.ensures (too_many _ c.loop-part.invariant c.in-Some.ensures.steps.first (grind (arith, common_steps)))

pub loop-part-preserved : goal.loop-part-preserved
loop-part-preserved c =
    let room : length c.loop-part.list.items < 16 = grind (arith, common_steps) in
    let pushed : c.try_push.new.self.items ≡ c.loop-part.list.items ++ c.in_ok-number.field-0 ∷ [] = grind (arith, common_steps) in
    one_more pushed _ c.loop-part.invariant c.in-Some.ensures.steps.first ((c.number.ensures c.in_ok-number.field-0).0 c.in_ok-number.was) room
