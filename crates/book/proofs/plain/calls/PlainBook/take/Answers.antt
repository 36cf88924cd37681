use Rattle.std.proofs.lemmas.Result.{err_from_is_err_and}
use Rattle.book.specs.Standing.{standing}
use Rattle.book.proofs.Finds.{found_old, found_absent}
use Rattle.book.proofs.Members.{stands_in}
use Rattle.book.proofs.Plains.{take_kept, take_stands}
use Rattle.book.proofs.Refused.{take_improper, take_absent, take_done, of_some}
use Rattle.book.proofs.plain.calls.PlainBook.take.Goals as goal

pub returns-in_err-in_range-clause-refuses : goal.returns-in_err-in_range-clause-refuses
returns-in_err-in_range-clause-refuses c =
    let p = err_from_is_err_and c.from_residual.result c.from_residual.ensures.1 in
    rw (p.1, p.2, c.in_err-in_range.ensures.0) (take_improper _ 0 _ c.in_err-in_range.ensures.1)

pub returns-in_err-k-clause-refuses : goal.returns-in_err-k-clause-refuses
returns-in_err-k-clause-refuses c =
    let b = c.args.self.now in
    let p = err_from_is_err_and c.from_residual-in_err-k.result c.from_residual-in_err-k.ensures.1 in
    let t = found_absent c.args.e (standing b) c.place_of.result _ c.place_of.ensures c.ok.ensures.value c.ok_or.ensures.value c.in_err-k.was in
    rw (p.1, p.2, t.1) (take_absent (standing b) 0 c.args.e c.in_ok-in_range.ensures t.0)

pub invariant_of-self : goal.invariant_of-self
invariant_of-self c =
    let b = c.args.self.now in
    let t = found_old c.args.e (standing b) c.place_of.result c.in_ok-k.k c.place_of.ensures c.ok.ensures.value c.ok_or.ensures.value c.in_ok-k.was in
    take_kept b c.args.e c.in_ok-k.k t c.remove.new.self (of_some c.remove.result (standing b) c.in_ok-k.k t.0 c.remove.ensures.gives c.remove.ensures.some)

pub returns-clause-refuses : goal.returns-clause-refuses
returns-clause-refuses c =
    let b = c.args.self.now in
    let t = found_old c.args.e (standing b) c.place_of.result c.in_ok-k.k c.place_of.ensures c.ok.ensures.value c.ok_or.ensures.value c.in_ok-k.was in
    take_done (standing b) 0 c.args.e c.in_ok-in_range.ensures (stands_in c.args.e (standing b) c.in_ok-k.k t.0 t.1)

pub returns-clause-taken : goal.returns-clause-taken
returns-clause-taken c =
    let b = c.args.self.now in
    let t = found_old c.args.e (standing b) c.place_of.result c.in_ok-k.k c.place_of.ensures c.ok.ensures.value c.ok_or.ensures.value c.in_ok-k.was in
    take_stands b c.args.e c.in_ok-k.k t c.remove.new.self (of_some c.remove.result (standing b) c.in_ok-k.k t.0 c.remove.ensures.gives c.remove.ensures.some)
