use Rattle.std.proofs.Common.{sym, subst, IsTrue, ◌↔◌}
use Rattle.rights.specs.Lists.{In}
use Rattle.book.specs.Standing.{standing}
use Rattle.book.proofs.Finds.{found_stands}
use Rattle.book.proofs.plain.calls.PlainBook.holds.Goals as goal

pub returns : goal.returns
returns c =
    let es = standing c.args.self.now in
    subst (λ b. IsTrue b ↔ In c.args.e es) (sym c.is_ok.ensures.value) (found_stands c.args.e es c.place_of.result c.place_of.ensures)
