use Rattle.std.proofs.Common.{refl, sym, ◌∙◌}
use Rattle.rights.proofs.Checks.{first_hit, first_miss, first_none}
use Rattle.roll.proofs.Moves.{put_in}
use Rattle.roll.proofs.Puts.{ok_only, fault_none}
use Rattle.roll.proofs.pair_roll.PairRoll.add.Goals as goal

pub returns-then-len-self-clause-refuses : goal.returns-then-len-self-clause-refuses
returns-then-len-self-clause-refuses c = first_hit _ _ (sym c.len.ensures ∙ c.if-len-self.true)

pub invariant_of-self : goal.invariant_of-self
invariant_of-self c =
    let x = c.args.self.now in
    let w = put_in x.front c.insert.new.self x.most c.args.k c.args.p c.insert.result x.room x.kept c.requires.place c.requires.may (λ e. c.if-len-self.false (c.len.ensures ∙ e)) c.insert.ensures.done c.insert.ensures.ok in
    record { room = w.room; kept = w.kept }

pub returns : goal.returns
returns c =
    let x = c.args.self.now in
    let w = put_in x.front c.insert.new.self x.most c.args.k c.args.p c.insert.result x.room x.kept c.requires.place c.requires.may (λ e. c.if-len-self.false (c.len.ensures ∙ e)) c.insert.ensures.done c.insert.ensures.ok in
    let went = c.map_err.ensures.variant ∙ w.went in
    let on = ok_only c.map_err.result _ _ went w.adds in
    record {
      refuses = rw (fault_none c.map_err.result went) (first_miss _ _ _ (λ e. c.if-len-self.false (c.len.ensures ∙ e)) (first_none _ refl));
      put = on.0;
      unchanged = on.1;
      keeps = refl;
      rest = w.rest;
    }
