use Rattle.std.proofs.Common.{length, ap, arith}
use Rattle.roll.proofs.Makings.{make_granted}
use Rattle.roll.proofs.Sounds.{kept_none}
use Rattle.roll.proofs.pair_roll.PairRoll.new.Goals as goal

pub invariant_of-result : goal.invariant_of-result
invariant_of-result c = record {
  room = omega (arith, c.ceiling-most.ensures.room, ap length c.over.ensures.untouched);
  kept = kept_none _ c.ceiling-most.result c.over.ensures.empty c.ceiling-most.ensures.limit;
}

pub returns-clause-ceiling : goal.returns-clause-ceiling
returns-clause-ceiling c = make_granted _ c.args.ceiling c.ceiling-most.result c.ceiling-most.ensures.granted
