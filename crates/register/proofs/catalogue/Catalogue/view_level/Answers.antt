use Rattle.std.proofs.Common.{length, sym, ◌∙◌, ap, is_some, arith}
use Rattle.std.proofs.lemmas.Bool.{leb-true, le-leb, eqb-false}
use Rattle.register.proofs.Levels.{made_from, made_parts}
use Rattle.register.proofs.Lists.{some_when}
use Rattle.register.proofs.Whole.{sound}
use Rattle.register.proofs.catalogue.Catalogue.view_level.Goals as goal

pub returns-clause-made : goal.returns-clause-made
returns-clause-made c =
    let s = c.args.self.now in
    let xs = c.args.names.now in
    let is = ap is_some c.then_some.ensures ∙ some_when _ _ in (
      λ some. made_from _ _ (sound s) xs c.requires (omega (arith, eqb-false (length xs) 0 (sym c.if-is_empty.ensures))) c.if-names-gt8.false (sym c.if-not-rises.ensures) (omega (arith, c.level_over-level.ensures.value, leb-true _ 7 (sym is ∙ some))),
      λ made. is ∙ le-leb _ 7 (omega (arith, c.level_over-level.ensures.value, (made_parts _ _ (sound s) xs made).3)),
    )
