use Rattle.rights.specs.Pairs.{pair}
use Rattle.roll.proofs.Moves.{taken_out}
use Rattle.roll.proofs.pair_roll.methods.PairRollRollMut.take.Goals as goal

pub invariant_of-self : goal.invariant_of-self
invariant_of-self c =
    let x = c.args.self.now in
    let t = taken_out x.front c.remove.new.self x.most c.in_ok-k.k (pair c.args.m c.args.g) c.remove.result x.room x.kept c.in_ok-k.ensures.stands c.remove.ensures.gives c.remove.ensures.some in
    record { room = t.room; kept = t.kept }

pub returns-clause-taken : goal.returns-clause-taken
returns-clause-taken c =
    let x = c.args.self.now in
    (taken_out x.front c.remove.new.self x.most c.in_ok-k.k (pair c.args.m c.args.g) c.remove.result x.room x.kept c.in_ok-k.ensures.stands c.remove.ensures.gives c.remove.ensures.some).drops
