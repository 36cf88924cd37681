use Rattle.std.proofs.Common.{refl, arith}
use Rattle.marking.proofs.Sofar.{one_more, no_more}
use Rattle.marking.proofs.mark.Goals as goal

pub loop-line-preserved : goal.loop-line-preserved
loop-line-preserved c =
    one_more _ _ _ c.in-Some.line _ _ _ _ _ _ c.answer_to-next.result.1 c.loop-line.invariant c.in-Some.ensures.steps c.answer_to-next.ensures c.in_ok-append-2.ensures

pub returns : goal.returns
returns c = record {
  short = λ fits. no_more _ _ _ _ _ c.loop-line.invariant c.in-None.ensures.steps.0;
  long = λ over. absurd (omega (arith, c.if-not-fits.ensures.0 refl));
}
