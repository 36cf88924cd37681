use Rattle.std.proofs.Common.{sym, refl, ap, subst, ◌∙◌}
use Rattle.book.specs.Effects.{without_entry}
use Rattle.book.specs.Packing.{packed}
use Rattle.book.proofs.Packs.{Changed, set_stands, unset_absent, take_changed, take_shrunk}
use Rattle.book.proofs.Refused.{take_absent, take_done}
use Rattle.book.proofs.packed.Cells.take_from.Goals as goal
use Rattle.book.proofs.packed.Cells.take_from.Goals.{then-size-eq1, else-size-eq1}

pub returns-then-not-holds-clause-refuses : goal.returns-then-not-holds-clause-refuses
returns-then-not-holds-clause-refuses c =
    take_absent _ 0 _ c.requires.proper (unset_absent c.args.self.now c.args.e c.args.i c.requires.cell c.as_slice.result.now c.as_slice.ensures c.if-not-holds.ensures)

-- a cell of one entry goes, and another is put back with the bit of e cleared
taken : (c : goal.After-recount-arg-1) → Changed c.args.self.now (without_entry c.args.e (packed c.args.self.now)) c.args.i c.if-size-eq1.self.1.0
taken c =
    let b = c.args.self.now in
    elim c.if-size-eq1.branch [
      | then-size-eq1 w ↦ subst (Changed b _ c.args.i) (sym (ap (λ t. t.1.0) w.self-is))
          (take_shrunk b c.args.e c.args.i c.requires.cell c.as_slice.result.now c.as_slice.ensures c.if-not-holds.ensures (sym c.size.ensures ∙ w.if-size-eq1.true) w.remove.result w.remove.ensures.gives w.remove.new.self w.remove.ensures.some)
      | else-size-eq1 w ↦ subst (Changed b _ c.args.i) (sym (ap (λ t. t.1.0) w.self-is))
          (take_changed b c.args.e c.args.i c.requires.cell c.as_slice.result.now c.as_slice.ensures w.turned.result w.turned.ensures w.replace.result w.replace.ensures.gives w.replace.new.self w.replace.ensures.some
          c.if-not-holds.ensures (λ one. w.if-size-eq1.false (c.size.ensures ∙ one)))
    ]

pub recount-requires-clause-counted : goal.recount-requires-clause-counted
recount-requires-clause-counted c = (taken c).counted

pub recount-requires-clause-few : goal.recount-requires-clause-few
recount-requires-clause-few c = (taken c).few

pub invariant_of-self : goal.invariant_of-self
invariant_of-self c = (taken c.before).keeps c.recount.new.front c.recount.ensures

pub returns-clause-refuses : goal.returns-clause-refuses
returns-clause-refuses c =
    take_done _ 0 _ c.requires.proper (set_stands c.args.self.now c.args.e c.args.i c.requires.cell c.as_slice.result.now c.as_slice.ensures c.if-not-holds.ensures)

pub returns-clause-taken : goal.returns-clause-taken
returns-clause-taken c =
    let taken = taken c.before.before in
    record { stand = taken.stands c.recount.new.front c.recount.ensures; ceiling = refl; rest = taken.rest c.recount.new.front c.recount.ensures }
