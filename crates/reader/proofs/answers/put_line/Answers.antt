use Rattle.std.proofs.Common.{[], ◌∷◌, ◌++◌, codes, decimal, arith}
use Rattle.std.proofs.lemmas.List.{length-append}
use Rattle.reader.specs.Answers.{answer_text, answer_line}
use Rattle.reader.proofs.Placed.{put_more, put_length, put_front}
use Rattle.reader.proofs.Sizes.{count_short}
use Rattle.reader.proofs.answers.put_line.Goals as goal

pub put_number-at-requires : goal.put_number-at-requires
put_number-at-requires c = omega (arith, count_short c.args.line (omega arith))

pub put_text-at-requires : goal.put_text-at-requires
put_text-at-requires c =
    let digits = count_short c.args.line (omega arith) in
    omega (arith, c.put_number-at.ensures.past, put_length c.put_number-at.ensures (omega arith))

pub put_answer-at-requires : goal.put_answer-at-requires
put_answer-at-requires c =
    let digits = count_short c.args.line (omega arith) in
    let first = put_length c.put_number-at.ensures (omega arith) in
    let start = c.put_number-at.ensures.past in
    omega (arith, c.put_text-at.ensures.past, put_length c.put_text-at.ensures (omega arith))

pub put_text-requires : goal.put_text-requires
put_text-requires c =
    let digits = count_short c.args.line (omega arith) in
    let first = put_length c.put_number-at.ensures (omega arith) in
    let start = c.put_number-at.ensures.past in
    let second = put_length c.put_text-at.ensures (omega arith) in
    let after = c.put_text-at.ensures.past in
    omega (arith, c.put_answer-at.ensures.short, c.put_answer-at.ensures.put.past, put_length c.put_answer-at.ensures.put (omega (arith, c.put_answer-at.ensures.short)))

pub returns : goal.returns
unfolding answer_line
returns c =
    let text = answer_text c.args.answer.now in
    let digits = count_short c.args.line (omega arith) in
    let short = c.put_answer-at.ensures.short in
    let one = length-append (decimal c.args.line) (codes " ") in
    let two = length-append (decimal c.args.line ++ codes " ") text in
    let three = length-append (decimal c.args.line ++ codes " " ++ text) (10 ∷ []) in
    let front = put_more c.put_number-at.ensures c.put_text-at.ensures (omega arith) in
    let most = put_more front c.put_answer-at.ensures.put (omega arith) in
    let all = put_front (put_more most c.put_text.ensures (omega arith)) in
    record { text = all.1; past = all.0; short = omega (arith, all.0) }
