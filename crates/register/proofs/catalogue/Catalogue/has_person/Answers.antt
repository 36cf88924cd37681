use Rattle.std.proofs.Common.{rules, tests}
use Rattle.std.proofs.lemmas.Iterator.{YieldsList-from_slice}
use Rattle.std.proofs.lemmas.Iterator.Search.{any_from_yields_List}
use Rattle.register.specs.Rows.{is_person}
use Rattle.register.proofs.Persons.{person_listed}
use Rattle.register.proofs.catalogue.Catalogue.has_person.Goals as goal

pub returns : goal.returns
returns c = person_listed c.args.self.now.subjects c.any.result (any_from_yields_List is_person _ _ _ c.any.ensures.ran (YieldsList-from_slice c.args.self.now.subjects cc) (λ x b q k. search (rules, tests)))
