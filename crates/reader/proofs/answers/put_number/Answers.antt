use Rattle.std.proofs.Common.{◌+◌, ◌++◌, length, drop, decimal, ap, ◌∙◌, arith}
use Rattle.reader.proofs.Placed.{put_at}
use Rattle.reader.proofs.answers.put_number.Goals as goal

pub returns : goal.returns
returns c =
    let told = c.write_digits.ensures in
    let text = ap decimal c.from.ensures in
    put_at c.write_digits.result (omega (arith, told.start, ap length text)) (omega (arith, c.digits.ensures)) (told.written ∙ ap (λ ds. ds ++ drop (c.args.at + c.digits.result) c.args.buffer.now) text) told.before
