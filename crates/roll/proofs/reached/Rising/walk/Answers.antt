use Rattle.std.proofs.Common.{drop, subst, arith}
use Rattle.roll.proofs.Walks.{Walking, walking_none, walking_more, walking_all}
use Rattle.roll.proofs.reached.Rising.walk.Goals as goal

pub loop-m-init : goal.loop-m-init
loop-m-init c = rw (c.alone-seen.ensures.marks, c.alone-seen.ensures.todo) (walking_none c.args.self.pairs.now c.args.s (omega arith))

pub loop-m-preserved : goal.loop-m-preserved
loop-m-preserved c =
    walking_more c.args.self.pairs.now c.args.s c.in-Some.m c.loop-m.seen.marks c.spread.new.seen.marks (drop c.next.new.self.next c.next.new.self.found.items) (drop c.spread.new.seen.next c.spread.new.seen.found.items)
    (subst (Walking c.args.self.pairs.now c.args.s c.loop-m.seen.marks) c.in-Some.ensures.some c.loop-m.invariant)
    (rw (← c.next.ensures.marks) c.spread.ensures)

pub returns : goal.returns
returns c = rw c.in_default.ensures.marks (walking_all c.args.self.pairs.now c.args.s c.loop-m.seen.marks (drop c.loop-m.seen.next c.loop-m.seen.found.items) c.loop-m.invariant c.in_default.ensures.none)
