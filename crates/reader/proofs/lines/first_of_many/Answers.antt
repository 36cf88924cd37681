use Rattle.std.proofs.Common.{subst}
use Rattle.memchr.specs.Find.{TakesFirst, is_byte}
use Rattle.reader.proofs.Found.{first_of_all}
use Rattle.reader.proofs.lines.first_of_many.Goals as goal

pub returns : goal.returns
returns c =
    let took = subst (λ ps. TakesFirst ps c.next.result c.next.new.self) c.memchr_iter.ensures.value c.next.ensures.steps in
    first_of_all (is_byte c.args.stop) c.args.bytes.now c.next.result c.next.new.self took
