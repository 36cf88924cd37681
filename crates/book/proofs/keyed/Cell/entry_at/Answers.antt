use Rattle.std.proofs.Common.{◌≡◌, refl, ap, ◌∙◌, rules, tests}
use Rattle.std.specs.Option.{option_map, option_copied}
use Rattle.std.proofs.lemmas.Iterator.{YieldsList-from_range}
use Rattle.std.proofs.lemmas.Iterator.Consumers.{nth_from_yields_List, YieldsList-at, YieldsList-from_filter}
use Rattle.rights.specs.Bits.{rows}
use Rattle.book.specs.Cells.{has, entry_of}
use Rattle.book.proofs.Reading.{item_read, none_at_number, some_at_number}
use Rattle.book.proofs.keyed.Cell.entry_at.Goals as goal

pub returns-in_err-k : goal.returns-in_err-k
returns-in_err-k c =
    let b = c.args.self.now in
    let nth = nth_from_yields_List c.nth.result _ c.args.n c.nth.ensures.ran
    (YieldsList-from_filter _ (has b.rights) (YieldsList-at c.filter.ensures.source (YieldsList-from_range 0 32 32 refl refl)) c.filter.ensures.closure (λ x r q k. search (rules, tests))) in
    c.from_residual.ensures ∙ none_at_number b c.args.n c.nth.result nth c.in_err-k.was

pub returns : goal.returns
returns c =
    let b = c.args.self.now in
    let nth = nth_from_yields_List c.nth.result _ c.args.n c.nth.ensures.ran
    (YieldsList-from_filter _ (has b.rights) (YieldsList-at c.filter.ensures.source (YieldsList-from_range 0 32 32 refl refl)) c.filter.ensures.closure (λ x r q k. search (rules, tests))) in
    let found : c.map.result ≡ option_map (entry_of b) (option_copied c.get.result) = search rules in
    found ∙ ap (option_map (entry_of b)) (item_read rows c.in_ok-k.k c.get.result c.get.ensures.lookup) ∙ some_at_number b c.args.n c.nth.result nth c.in_ok-k.k c.in_ok-k.was
