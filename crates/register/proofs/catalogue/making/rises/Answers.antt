use Rattle.std.proofs.Common.{rules, tests, ltb}
use Rattle.std.proofs.lemmas.List.Sorted.{answers_always}
use Rattle.register.proofs.Lists.{rise_answer}
use Rattle.register.proofs.catalogue.making.rises.Goals as goal

pub returns : goal.returns
returns c = rise_answer _ _ (c.is_sorted_by.ensures.cases (λ x y. ltb x y) (answers_always _ _ _ (λ f a r g h. search (rules, tests))))
