use Rattle.std.proofs.Common.{◌++◌, length, codes, decimal, sym, ap, ◌∙◌, arith}
use Rattle.rights.specs.Faults.{number, layer}
use Rattle.std.proofs.lemmas.List.{length-append}
use Rattle.reader.specs.Answers.{answer_text}
use Rattle.reader.proofs.Placed.{put_same, put_more, put_length}
use Rattle.reader.proofs.Sizes.{ground_short, number_short, layer_short, count_short}
use Rattle.reader.proofs.answers.put_answer.Goals as goal

pub put_both-requires : goal.put_both-requires
put_both-requires c = omega (arith, count_short c.in-Struck.count (omega arith))

pub put_both-requires-in-Yes : goal.put_both-requires-in-Yes
put_both-requires-in-Yes c = omega (arith, ap (λ n. length (decimal n)) c.from.ensures, ground_short c.in-Yes.ground)

pub put_both-requires-in-No : goal.put_both-requires-in-No
put_both-requires-in-No c = omega (arith, ap (λ n. length (decimal n)) c.from-in-No.ensures, ground_short c.in-No.ground)

pub put_both-next-requires : goal.put_both-next-requires
put_both-next-requires c =
    let e = ap (λ n. length (decimal n)) (c.from-in-Refused.ensures ∙ c.number.ensures) in
    omega (arith, e, number_short c.in-Refused.fault)

pub put_both-requires-in-Refused : goal.put_both-requires-in-Refused
put_both-requires-in-Refused c =
    let e = ap (λ n. length (decimal n)) (c.from-in-Refused.ensures ∙ c.number.ensures) in
    let d = ap (λ n. length (decimal n)) (c.from-in-Refused-2.ensures ∙ c.layer.ensures) in
    let short = number_short c.in-Refused.fault in
    omega (arith, e, d, layer_short c.in-Refused.fault, c.put_both-next.ensures.past, put_length c.put_both-next.ensures (omega arith))

pub returns-in-Struck : goal.returns-in-Struck
returns-in-Struck c = record {
  put = put_same (sym (ap answer_text c.in-Struck.is)) c.put_both.ensures;
  short = omega (arith, ap (λ a. length (answer_text a)) c.in-Struck.is, count_short c.in-Struck.count (omega arith));
}

pub returns-in-Yes : goal.returns-in-Yes
returns-in-Yes c = record {
  put = put_same (ap (λ n. codes "yes " ++ decimal n) c.from.ensures ∙ sym (ap answer_text c.in-Yes.is)) c.put_both-in-Yes.ensures;
  short = omega (arith, ap (λ a. length (answer_text a)) c.in-Yes.is, ground_short c.in-Yes.ground);
}

pub returns-in-No : goal.returns-in-No
returns-in-No c = record {
  put = put_same (ap (λ n. codes "no " ++ decimal n) c.from-in-No.ensures ∙ sym (ap answer_text c.in-No.is)) c.put_both-in-No.ensures;
  short = omega (arith, ap (λ a. length (answer_text a)) c.in-No.is, ground_short c.in-No.ground);
}

pub returns-in-Refused : goal.returns-in-Refused
returns-in-Refused c =
    let fault = c.in-Refused.fault in
    let num = c.from-in-Refused.ensures ∙ c.number.ensures in
    let lay = c.from-in-Refused-2.ensures ∙ c.layer.ensures in
    let e = ap (λ n. length (decimal n)) num in
    let d = ap (λ n. length (decimal n)) lay in
    let short = number_short fault in
    let brief = layer_short fault in
    record {
      put = put_same ((λ i. codes "refused " ++ decimal (num i) ++ (codes " " ++ decimal (lay i))) ∙ sym (ap answer_text c.in-Refused.is)) (put_more c.put_both-next.ensures c.put_both-in-Refused.ensures (omega arith));
      short = omega (arith, ap (λ a. length (answer_text a)) c.in-Refused.is, length-append (codes "refused " ++ decimal (number fault)) (codes " " ++ decimal (layer fault)));
    }
