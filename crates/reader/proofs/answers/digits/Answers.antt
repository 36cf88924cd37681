use Rattle.std.proofs.Common.{arith}
use Rattle.reader.proofs.Sizes.{digits_many}
use Rattle.reader.proofs.answers.digits.Goals as goal

pub returns : goal.returns
returns c =
    let told = c.ilog10.ensures in
    digits_many c.args.n c.ilog10.result (omega arith) (omega (arith, told.power_le, c.max.ensures)) (omega (arith, told.next_power_gt, c.max.ensures))
