use Rattle.std.proofs.Common.{arith}
use Rattle.roll.proofs.Spreads.{halving_above, halving_below}
use Rattle.roll.proofs.reached.Rising.start.Goals as goal

pub loop-low-preserved-then-self-mid : goal.loop-low-preserved-then-self-mid
loop-low-preserved-then-self-mid c =
    halving_above c.args.self.pairs.now c.args.m c.args.self.rises c.loop-low.low c.loop-low.high _ _ c.loop-low.invariant (omega arith) (omega arith) c.if-self-mid.true

pub loop-low-preserved : goal.loop-low-preserved
loop-low-preserved c =
    halving_below c.args.self.pairs.now c.args.m c.args.self.rises c.loop-low.low c.loop-low.high _ _ c.loop-low.invariant (omega arith) (omega arith) c.if-self-mid.false
