use Rattle.std.proofs.Common.{drop, ◌≡◌, ◌+◌, ◌⊎◌, arith}
use Rattle.rights.specs.Lists.{In}
use Rattle.rights.specs.Pairs.{pair}
use Rattle.roll.proofs.Spreads.{Among, among_in, spread_more, spread_back, spread_past}
use Rattle.roll.proofs.Walks.{marks_like, marks_both}
use Rattle.roll.proofs.reached.Rising.spread.Goals as goal

pub returns-then-p-m : goal.returns-then-p-m
returns-then-p-m c =
    let past = spread_past c.args.self.pairs.now c.args.m c.args.self.rises c.start-first.result c.start-first.ensures.start c.loop-p.p-index (pair 0 0) (λ _. c.if-p-m.true) in
    marks_like _ (λ h. In (pair c.args.m h) c.args.self.pairs.now) c.args.seen.now.marks c.loop-p.seen.marks (drop c.args.seen.now.next c.args.seen.now.found.items) (drop c.loop-p.seen.next c.loop-p.seen.found.items)
    (λ h a. among_in c.args.self.pairs.now (c.start-first.result + c.loop-p.p-index) (pair c.args.m h) a) past c.loop-p.invariant

pub loop-p-preserved : goal.loop-p-preserved
loop-p-preserved c =
    let d = pair 0 0 in
    marks_like (λ h. Among c.args.self.pairs.now (c.start-first.result + c.loop-p.p-index) (pair c.args.m h) ⊎ (h ≡ _)) _ c.args.seen.now.marks c.mark.new.self.marks (drop c.args.seen.now.next c.args.seen.now.found.items) (drop c.mark.new.self.next c.mark.new.self.found.items)
    (spread_more c.args.self.pairs.now c.args.m c.args.self.rises c.start-first.result c.start-first.ensures.start c.loop-p.p-index d c.loop-p-test.true c.if-p-m.false)
    (spread_back c.args.self.pairs.now c.args.m c.args.self.rises c.start-first.result c.start-first.ensures.start c.loop-p.p-index d c.loop-p-test.true)
    (marks_both _ _ c.args.seen.now.marks c.loop-p.seen.marks c.mark.new.self.marks (drop c.args.seen.now.next c.args.seen.now.found.items) (drop c.loop-p.seen.next c.loop-p.seen.found.items) (drop c.mark.new.self.next c.mark.new.self.found.items) c.loop-p.invariant c.mark.ensures)

pub returns : goal.returns
returns c = let past = spread_past c.args.self.pairs.now c.args.m c.args.self.rises c.start-first.result c.start-first.ensures.start c.loop-p.p-index (pair 0 0) (λ l. absurd (omega (arith, c.loop-p-test.false))) in
    marks_like _ (λ h. In (pair c.args.m h) c.args.self.pairs.now) c.args.seen.now.marks c.loop-p.seen.marks (drop c.args.seen.now.next c.args.seen.now.found.items) (drop c.loop-p.seen.next c.loop-p.seen.found.items)
    (λ h a. among_in c.args.self.pairs.now (c.start-first.result + c.loop-p.p-index) (pair c.args.m h) a) past c.loop-p.invariant
