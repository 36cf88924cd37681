use Rattle.std.proofs.Common.{rules, tests}
use Rattle.std.proofs.lemmas.Iterator.{cases_from_all, YieldsList-from_slice}
use Rattle.rights.specs.Tables.{Stands}
use Rattle.register.specs.Catalogue.{tables_in}
use Rattle.register.proofs.Lists.{each_decided}
use Rattle.register.proofs.catalogue.Catalogue.all_stand.Goals as goal

pub returns : goal.returns
returns c =
    let standing = Stands (tables_in c.args.self.now) in
    each_decided standing _ _ (cases_from_all _ _ c.all.result standing (λ d. standing d → ⊥) c.all.ensures.ran (YieldsList-from_slice c.args.names.now cc) (λ x q k. search (rules, tests)) (λ x q k. search (rules, tests)))
