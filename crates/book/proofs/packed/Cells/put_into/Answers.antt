use Rattle.std.proofs.Common.{sym, refl, ◌∙◌}
use Rattle.book.specs.Effects.{with_entry}
use Rattle.book.specs.Packing.{packed}
use Rattle.book.proofs.Packs.{Changed, set_stands, unset_absent, put_changed}
use Rattle.book.proofs.Refused.{put_taken, put_full, put_done}
use Rattle.book.proofs.packed.Cells.put_into.Goals as goal

pub returns-then-holds-clause-refuses : goal.returns-then-holds-clause-refuses
returns-then-holds-clause-refuses c =
    put_taken _ _ _ c.requires.proper (set_stands c.args.self.now c.args.e c.args.i c.requires.cell c.as_slice.result.now c.as_slice.ensures c.if-holds.ensures)

pub returns-then-held_count-self-clause-refuses : goal.returns-then-held_count-self-clause-refuses
returns-then-held_count-self-clause-refuses c =
    let new = unset_absent c.args.self.now c.args.e c.args.i c.requires.cell c.as_slice.result.now c.as_slice.ensures c.if-holds.ensures in
    put_full _ _ _ c.requires.proper new (sym c.held_count.ensures ∙ c.if-held_count-self.true)

-- the cell is put back with the bit of e set
put : (c : goal.After-recount-arg-1) → Changed c.args.self.now (with_entry c.args.e (packed c.args.self.now)) c.args.i c.replace.new.self
put c =
    put_changed c.args.self.now c.args.e c.args.i c.requires.cell c.as_slice.result.now c.as_slice.ensures c.turned.result c.turned.ensures c.replace.result c.replace.ensures.gives c.replace.new.self c.replace.ensures.some
    c.if-holds.ensures c.requires.proper (λ full. c.if-held_count-self.false (c.held_count.ensures ∙ full))

pub recount-requires-clause-counted : goal.recount-requires-clause-counted
recount-requires-clause-counted c = (put c).counted

pub recount-requires-clause-few : goal.recount-requires-clause-few
recount-requires-clause-few c = (put c).few

pub invariant_of-self : goal.invariant_of-self
invariant_of-self c = (put c.before).keeps c.recount.new.front c.recount.ensures

pub returns-clause-refuses : goal.returns-clause-refuses
returns-clause-refuses c =
    let new = unset_absent c.args.self.now c.args.e c.args.i c.requires.cell c.as_slice.result.now c.as_slice.ensures c.if-holds.ensures in
    put_done _ _ _ c.requires.proper new (λ full. c.if-held_count-self.false (c.held_count.ensures ∙ full))

pub returns-clause-put : goal.returns-clause-put
returns-clause-put c =
    let put = put c.before.before in
    record { stand = put.stands c.recount.new.front c.recount.ensures; ceiling = refl; rest = put.rest c.recount.new.front c.recount.ensures }
