use Rattle.std.proofs.Common.{sym, arith}
use Rattle.book.proofs.Unpacked.{length_unpacked}
use Rattle.book.proofs.keyed.Cell.size.Goals as goal

pub returns : goal.returns
returns c = sym (length_unpacked c.args.self.now (omega arith))
