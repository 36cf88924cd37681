use Rattle.std.proofs.Common.{◌<◌, true, false, length, replicate, ap, arith, length-set}
use Rattle.roll.proofs.Walks.{room_one}
use Rattle.roll.proofs.reached.Reached.alone.Goals as goal

pub invariant_of-result : goal.invariant_of-result
invariant_of-result c =
    let l : c.from.result < 256 = omega (arith, c.from.ensures) in
    record { long = length-set (replicate 256 false) c.from.result true; room = omega (arith, room_one c.from.result l, c.push.ensures.len, ap length c.new-found.ensures); inside = omega arith }
