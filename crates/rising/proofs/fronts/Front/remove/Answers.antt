use Rattle.std.proofs.Common.{refl}
use Rattle.rising.proofs.Filled.{remove_refills}
use Rattle.rising.proofs.fronts.Front.remove.Goals as goal

pub returns-clause-some : goal.returns-clause-some
returns-clause-some g c = remove_refills c.args.self.now _ c.args.k c.if-k-used.false refl c.copy_within.ensures.after
