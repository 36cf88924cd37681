use Rattle.std.proofs.Common.{◌-◌}
use Rattle.roll.proofs.Spreads.{Halving}
use Rattle.roll.proofs.reached.Rising.start.Given as goal

abbrev pub invariant-loop-low : goal.invariant-loop-low
invariant-loop-low l = Halving l.self.pairs.now l.m l.low l.high

abbrev pub decreases-loop-low : goal.decreases-loop-low
decreases-loop-low l = l.high - l.low
