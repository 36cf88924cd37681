use Rattle.std.proofs.Common.{decimal, arith}
use Rattle.std.proofs.lemmas.List.{length-append}
use Rattle.reader.proofs.Placed.{put_more, put_length}
use Rattle.reader.proofs.answers.put_both.Goals as goal

pub put_text-next-requires : goal.put_text-next-requires
put_text-next-requires c = omega (arith, length-append c.args.words.now (decimal c.args.n))

pub put_number-requires : goal.put_number-requires
put_number-requires c =
    let long = length-append c.args.words.now (decimal c.args.n) in
    omega (arith, c.put_text-next.ensures.past, put_length c.put_text-next.ensures (omega arith))

pub returns : goal.returns
returns c = put_more c.put_text-next.ensures c.put_number.ensures (omega (arith, length-append c.args.words.now (decimal c.args.n)))
