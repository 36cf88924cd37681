use Rattle.std.proofs.Common.{Ok, Err, refl, rules}
use Rattle.sitting.proofs.Answering.{answered, user_step, group_step, late_set_up}
use Rattle.sitting.proofs.words.enrol.Goals as goal

pub returns-in_err-user-in-User-clause-answer : goal.returns-in_err-user-in-User-clause-answer
returns-in_err-user-in-User-clause-answer c = answered _ _ _ _ _ _ _ _ c.in-User.is (search rules) refl (user_step c.args.catalogue.now c.user.new.catalogue (Err c.in_err-user-in-User.field-0.0) c.in-User.n c.in-User.c c.in_err-user-in-User.ensures.verdict c.in_err-user-in-User.ensures.effect)

pub returns-in_ok-user-in-User-clause-answer : goal.returns-in_ok-user-in-User-clause-answer
returns-in_ok-user-in-User-clause-answer c = answered _ _ _ _ _ _ _ _ c.in-User.is (search rules) refl (user_step c.args.catalogue.now c.user.new.catalogue (Ok tt) c.in-User.n c.in-User.c c.in_ok-user-in-User.ensures.verdict c.in_ok-user-in-User.ensures.effect)

pub returns-in_err-group-in-Group-clause-answer : goal.returns-in_err-group-in-Group-clause-answer
returns-in_err-group-in-Group-clause-answer c = answered _ _ _ _ _ _ _ _ c.in-Group.is (search rules) refl (group_step c.args.catalogue.now c.group.new.catalogue (Err c.in_err-group-in-Group.field-0.0) c.in-Group.n c.in_err-group-in-Group.ensures.verdict c.in_err-group-in-Group.ensures.effect)

pub returns-in_ok-group-in-Group-clause-answer : goal.returns-in_ok-group-in-Group-clause-answer
returns-in_ok-group-in-Group-clause-answer c = answered _ _ _ _ _ _ _ _ c.in-Group.is (search rules) refl (group_step c.args.catalogue.now c.group.new.catalogue (Ok tt) c.in-Group.n c.in_ok-group-in-Group.ensures.verdict c.in_ok-group-in-Group.ensures.effect)

pub returns-in_default : goal.returns-in_default
returns-in_default c = record { answer = rw c.not_taken.ensures (late_set_up _ c.args.command c.in_default.not-User c.in_default.not-Group c.requires); count = refl }
