use Rattle.std.proofs.Common.{set, refl, ap, arith}
use Rattle.rising.proofs.Filled.{insert_refills}
use Rattle.rising.proofs.fronts.Front.insert.Goals as goal

pub returns-clause-ok : goal.returns-clause-ok
returns-clause-ok g c =
    let h = c.if-used-self.false in let i = c.args.self.now.inside in
    insert_refills c.args.self.now _ c.args.k c.args.x (omega arith) c.if-k-used.false refl (ap (λ l. set l c.args.k c.args.x) c.copy_within.ensures.after)
