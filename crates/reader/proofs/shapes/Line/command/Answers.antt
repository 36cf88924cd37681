use Rattle.reader.proofs.Written.{too_long}
use Rattle.reader.proofs.shapes.Line.command.Goals as goal

pub returns-then-self-gt-LONGEST_LINE-clause-exactly : goal.returns-then-self-gt-LONGEST_LINE-clause-exactly
returns-then-self-gt-LONGEST_LINE-clause-exactly c = too_long c.args.self.now.bytes.now c.if-self-gt-LONGEST_LINE.true
