use Rattle.std.proofs.Common.{Ok, Err, refl, rules}
use Rattle.sitting.proofs.Answering.{answered, base_step, view_step, late_open}
use Rattle.sitting.proofs.words.make.Goals as goal

pub returns-in_err-base-in-Base-clause-answer : goal.returns-in_err-base-in-Base-clause-answer
returns-in_err-base-in-Base-clause-answer c = answered _ _ _ _ _ _ _ _ c.in-Base.is (search rules) refl (base_step c.args.catalogue.now c.base.new.catalogue (Err c.in_err-base-in-Base.field-0.0) c.in-Base.i c.in-Base.t c.in_err-base-in-Base.ensures.verdict c.in_err-base-in-Base.ensures.effect)

pub returns-in_ok-base-in-Base-clause-answer : goal.returns-in_ok-base-in-Base-clause-answer
returns-in_ok-base-in-Base-clause-answer c = answered _ _ _ _ _ _ _ _ c.in-Base.is (search rules) refl (base_step c.args.catalogue.now c.base.new.catalogue (Ok tt) c.in-Base.i c.in-Base.t c.in_ok-base-in-Base.ensures.verdict c.in_ok-base-in-Base.ensures.effect)

pub returns-in_err-view-in-View-clause-answer : goal.returns-in_err-view-in-View-clause-answer
returns-in_err-view-in-View-clause-answer c = answered _ _ _ _ _ _ _ _ c.in-View.is (search rules) refl (view_step c.args.catalogue.now c.view.new.catalogue (Err c.in_err-view-in-View.field-0.0) c.in-View.i c.in-View.t c.in-View.d (rw c.listed.ensures at c.in_err-view-in-View.ensures.verdict) c.in_err-view-in-View.ensures.effect)

pub returns-in_ok-view-in-View-clause-answer : goal.returns-in_ok-view-in-View-clause-answer
returns-in_ok-view-in-View-clause-answer c = answered _ _ _ _ _ _ _ _ c.in-View.is (search rules) refl (view_step c.args.catalogue.now c.view.new.catalogue (Ok tt) c.in-View.i c.in-View.t c.in-View.d (rw c.listed.ensures at c.in_ok-view-in-View.ensures.verdict) (rw c.listed.ensures at c.in_ok-view-in-View.ensures.effect))

pub returns-in_default : goal.returns-in_default
returns-in_default c = record { answer = rw c.not_taken.ensures (late_open _ c.args.command c.in_default.not-Base c.in_default.not-View c.requires); count = refl }
