use Rattle.std.proofs.Common.{◌∷◌, [], true, drop, ◌∙◌, arith, length-set}
use Rattle.std.proofs.lemmas.List.{drop-append-le}
use Rattle.roll.proofs.Walks.{unmarked_less, marks_one}
use Rattle.roll.proofs.reached.Reached.mark.Goals as goal

pub push-requires : goal.push-requires
push-requires c =
    omega (arith, unmarked_less c.args.self.now.marks c.from-at.result (omega (arith, c.args.self.now.long, c.from-at.ensures)) c.if-not-self-at.true, c.args.self.now.room)

pub invariant_of-self : goal.invariant_of-self
invariant_of-self c = record {
  long = length-set c.args.self.now.marks c.from-at.result true ∙ c.args.self.now.long;
  room = omega (arith, unmarked_less c.args.self.now.marks c.from-at.result (omega (arith, c.args.self.now.long, c.from-at.ensures)) c.if-not-self-at.true, c.args.self.now.room, c.push.ensures.len);
  inside = omega (arith, c.args.self.now.inside, c.push.ensures.len);
}

pub returns-then-not-self-at : goal.returns-then-not-self-at
returns-then-not-self-at c =
    let x = c.args.self.now in
    rw (c.push.ensures.items, drop-append-le x.next x.found.items (c.args.h ∷ []) x.inside, c.from-at.ensures) (marks_one x.marks (drop x.next x.found.items) c.args.h (omega (arith, x.long)) (rw c.from-at.ensures at c.if-not-self-at.true))
