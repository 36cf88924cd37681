use Rattle.marking.specs.Marks.{LineAnswered}
use Rattle.marking.proofs.answer_to.Goals as goal

pub returns-in-Some : goal.returns-in-Some
returns-in-Some c =
    let is = (c.command.ensures.exactly c.in-Some.command).0 c.in-Some.is in
    LineAnswered.read c.in-Some.command is.0 is.1 c.take.ensures.answer
