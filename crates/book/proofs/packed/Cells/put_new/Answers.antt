use Rattle.std.proofs.Common.{◌≡◌, is_ok, length, sym, refl, ap, ◌∙◌}
use Rattle.std.proofs.lemmas.Bool.{false≢true}
use Rattle.book.specs.Cells.{turned}
use Rattle.book.specs.Effects.{with_entry}
use Rattle.book.specs.Packing.{packed}
use Rattle.book.proofs.Packs.{Changed, absent, cell_fits, put_grown}
use Rattle.book.proofs.Refused.{put_full, put_done}
use Rattle.book.proofs.packed.Cells.put_new.Goals as goal

pub returns-then-held_count-self-clause-refuses : goal.returns-then-held_count-self-clause-refuses
returns-then-held_count-self-clause-refuses c =
    put_full _ _ _ c.requires.proper (absent c.args.self.now c.args.e c.args.i c.requires.cell) (sym c.held_count.ensures ∙ c.if-held_count-self.true)

-- the front has room
roomy : (c : goal.After-from_residual) → ⊥
roomy c =
    let done = c.insert.ensures.done.1 (cell_fits c.args.self.now c.args.e c.args.i c.requires.cell c.requires.proper (λ full. c.if-held_count-self.false (c.held_count.ensures ∙ full))) in
    false≢true (sym (ap is_ok c.in_err-map_err.was) ∙ c.map_err.ensures.variant ∙ done)

pub returns-in_err-map_err-clause-refuses : goal.returns-in_err-map_err-clause-refuses
returns-in_err-map_err-clause-refuses c = absurd (roomy c)

pub returns-in_err-map_err-clause-unchanged : goal.returns-in_err-map_err-clause-unchanged
returns-in_err-map_err-clause-unchanged c = absurd (roomy c)

-- the new cell holds e alone
put : (c : goal.After-recount-arg-1) → Changed c.args.self.now (with_entry c.args.e (packed c.args.self.now)) c.args.i c.insert.new.self
put c =
    let other = λ (full : length (packed c.args.self.now) ≡ c.args.self.now.ceiling). c.if-held_count-self.false (c.held_count.ensures ∙ full) in
    let done = c.insert.ensures.done.1 (cell_fits c.args.self.now c.args.e c.args.i c.requires.cell c.requires.proper other) in
    put_grown c.args.self.now c.args.e c.args.i c.requires.cell c.requires.proper other c.turned.result (c.turned.ensures ∙ ap (λ x. turned x c.args.e.right) c.empty.ensures) c.insert.result done c.insert.new.self c.insert.ensures.ok

pub recount-requires-clause-counted : goal.recount-requires-clause-counted
recount-requires-clause-counted c = (put c).counted

pub recount-requires-clause-few : goal.recount-requires-clause-few
recount-requires-clause-few c = (put c).few

pub invariant_of-self-2 : goal.invariant_of-self-2
invariant_of-self-2 c = (put c.before).keeps c.recount.new.front c.recount.ensures

pub returns-clause-refuses : goal.returns-clause-refuses
returns-clause-refuses c =
    put_done _ _ _ c.requires.proper (absent c.args.self.now c.args.e c.args.i c.requires.cell) (λ full. c.if-held_count-self.false (c.held_count.ensures ∙ full))

pub returns-clause-put : goal.returns-clause-put
returns-clause-put c =
    let put = put c.before.before in
    record { stand = put.stands c.recount.new.front c.recount.ensures; ceiling = refl; rest = put.rest c.recount.new.front c.recount.ensures }
