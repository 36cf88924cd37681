use Rattle.memchr.specs.Find.{is_byte}
use Rattle.reader.proofs.Found.{first_near, none_at_all, first_past}
use Rattle.reader.proofs.lines.first.Goals as goal

pub returns-then-is_some : goal.returns-then-is_some
returns-then-is_some c = first_near (is_byte c.args.stop) c.args.bytes.now 16 c.if-bytes-le-NEAR.false c.first_of_few-near.result c.if-is_some.ensures c.first_of_few-near.ensures

pub returns-in_err-first_of_many : goal.returns-in_err-first_of_many
returns-in_err-first_of_many c =
    rw c.from_residual.ensures (none_at_all (is_byte c.args.stop) c.args.bytes.now 16 c.if-bytes-le-NEAR.false c.first_of_few-near.result c.if-is_some.ensures c.first_of_few-near.ensures c.in_err-first_of_many.ensures)

pub returns : goal.returns
returns c = first_past (is_byte c.args.stop) c.args.bytes.now 16 c.if-bytes-le-NEAR.false c.first_of_few-near.result c.if-is_some.ensures c.first_of_few-near.ensures c.in_ok-first_of_many.ensures
