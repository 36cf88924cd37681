use Rattle.std.proofs.Common.{refl, arith}
use Rattle.rising.proofs.Filled.{write_refills}
use Rattle.rising.proofs.fronts.Front.replace.Goals as goal

pub returns-clause-some : goal.returns-clause-some
returns-clause-some g c = write_refills c.args.self.now _ c.args.k c.args.x (omega (arith, c.if-k-self.false)) refl refl
