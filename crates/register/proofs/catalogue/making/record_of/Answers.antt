use Rattle.std.proofs.Common.{◌≡◌, ◌≤◌, get_or, length, ◌∙◌, ⊎_elim, rules, arith}
use Rattle.std.proofs.lemmas.Bool.{cases_lt}
use Rattle.std.proofs.lemmas.List.{ext_get_or, get_or-take, get_or_past, length-take-le}
use Rattle.rights.proofs.Arrays.{made_at}
use Rattle.register.proofs.catalogue.making.record_of.Goals as goal

pub returns-clause-names : goal.returns-clause-names
returns-clause-names c =
    let xs = c.args.names.now in
    let ys = c.from_fn.result in
    let at = made_at _ (λ k y. y ≡ get_or xs k 0) _ (λ i y q called. search rules) ys 0 8 c.from_fn.ensures.items in
    let long : length ys ≡ 8 = c.from_fn.ensures.items.long in
    let few : length xs ≤ 8 = c.requires.few in
    let same = length-take-le (length xs) ys (omega (arith, long, few)) in
    ext_get_or 0 _ _ same (λ i l. get_or-take (length xs) ys i 0 (omega (arith, same, l)) ∙ at i (omega (arith, same, l, few)))

pub returns-clause-blank : goal.returns-clause-blank
returns-clause-blank c = λ k past.
    let xs = c.args.names.now in
    let ys = c.from_fn.result in
    let long : length ys ≡ 8 = c.from_fn.ensures.items.long in
    ⊎_elim
    (λ l. made_at _ (λ k y. y ≡ get_or xs k 0) _ (λ i y q called. search rules) ys 0 8 c.from_fn.ensures.items k l ∙ get_or_past xs k 0 past)
    (λ ge. get_or_past ys k 0 (omega (arith, long, ge)))
    (cases_lt k 8)
