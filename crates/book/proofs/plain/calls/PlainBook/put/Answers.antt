use Rattle.std.proofs.Common.{◌≡◌, length, sym, subst, ◌∙◌}
use Rattle.std.proofs.lemmas.Result.{err_from_is_err_and}
use Rattle.rights.specs.Checks.{First}
use Rattle.book.specs.Effects.{put_checks}
use Rattle.book.specs.Standing.{standing}
use Rattle.book.proofs.Finds.{found_new, found_taken}
use Rattle.book.proofs.Plains.{put_fits, put_kept, put_stands}
use Rattle.book.proofs.Refused.{put_improper, put_taken, put_full, put_done, no_fault, of_ok, on_ok}
use Rattle.book.proofs.plain.calls.PlainBook.put.Goals as goal

pub returns-in_err-in_range-clause-refuses : goal.returns-in_err-in_range-clause-refuses
returns-in_err-in_range-clause-refuses c =
    let p = err_from_is_err_and c.from_residual.result c.from_residual.ensures.1 in
    rw (p.1, p.2, c.in_err-in_range.ensures.0) (put_improper _ _ _ c.in_err-in_range.ensures.1)

pub returns-in_err-k-clause-refuses : goal.returns-in_err-k-clause-refuses
returns-in_err-k-clause-refuses c =
    let b = c.args.self.now in
    let p = err_from_is_err_and c.from_residual-in_err-k.result c.from_residual-in_err-k.ensures.1 in
    let t = found_taken c.args.e (standing b) c.place_of.result _ c.place_of.ensures c.err.ensures.value c.ok_or.ensures.value c.in_err-k.was in
    rw (p.1, p.2, t.1) (put_taken (standing b) b.ceiling c.args.e c.in_ok-in_range.ensures t.0)

pub returns-then-len-self-clause-refuses : goal.returns-then-len-self-clause-refuses
returns-then-len-self-clause-refuses c =
    let b = c.args.self.now in
    let t = found_new c.args.e (standing b) c.place_of.result c.in_ok-k.k c.place_of.ensures c.err.ensures.value c.ok_or.ensures.value c.in_ok-k.was in
    put_full _ _ _ c.in_ok-in_range.ensures t.0 (sym c.len.ensures ∙ c.if-len-self.true)

pub invariant_of-self : goal.invariant_of-self
invariant_of-self c =
    let b = c.args.self.now in
    let t = found_new c.args.e (standing b) c.place_of.result c.in_ok-k.k c.place_of.ensures c.err.ensures.value c.ok_or.ensures.value c.in_ok-k.was in
    let room : length (standing b) ≡ b.ceiling → ⊥ = λ full. c.if-len-self.false (c.len.ensures ∙ full) in
    let to = of_ok c.insert.result (c.insert.ensures.done.1 (put_fits b c.args.e c.in_ok-k.k t room)) c.insert.ensures.ok in
    put_kept b c.args.e c.in_ok-k.k t room c.insert.new.self to c.in_ok-in_range.ensures

pub returns-clause-refuses : goal.returns-clause-refuses
returns-clause-refuses c =
    let b = c.args.self.now in
    let t = found_new c.args.e (standing b) c.place_of.result c.in_ok-k.k c.place_of.ensures c.err.ensures.value c.ok_or.ensures.value c.in_ok-k.was in
    let room : length (standing b) ≡ b.ceiling → ⊥ = λ full. c.if-len-self.false (c.len.ensures ∙ full) in
    let none = no_fault c.map_err.result (c.map_err.ensures.variant ∙ c.insert.ensures.done.1 (put_fits b c.args.e c.in_ok-k.k t room)) in
    subst (First (put_checks (standing b) b.ceiling c.args.e)) (sym none) (put_done (standing b) b.ceiling c.args.e c.in_ok-in_range.ensures t.0 room)

pub returns-clause-put : goal.returns-clause-put
returns-clause-put c =
    let b = c.args.self.now in
    let t = found_new c.args.e (standing b) c.place_of.result c.in_ok-k.k c.place_of.ensures c.err.ensures.value c.ok_or.ensures.value c.in_ok-k.was in
    let room : length (standing b) ≡ b.ceiling → ⊥ = λ full. c.if-len-self.false (c.len.ensures ∙ full) in
    let to = of_ok c.insert.result (c.insert.ensures.done.1 (put_fits b c.args.e c.in_ok-k.k t room)) c.insert.ensures.ok in
    on_ok c.map_err.result (put_stands b c.args.e c.in_ok-k.k t room c.insert.new.self to)
