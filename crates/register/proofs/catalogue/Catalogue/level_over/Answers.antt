use Rattle.std.proofs.Common.{ℕ, ◌+◌, get_or, None, refl, arith, rules}
use Rattle.std.proofs.lemmas.Grind.{common_steps}
use Rattle.std.proofs.lemmas.List.Recursion.{max_bounds, max_least}
use Rattle.register.specs.Rows.{level_at, level_over}
use Rattle.register.proofs.catalogue.Catalogue.level_over.Goals as goal

pub returns-clause-value : goal.returns-clause-value
returns-clause-value c =
    let ts = c.args.self.now.tables in
    let one_more = λ (d : ℕ). level_at (get_or ts d None) + 1 in
    let bounds = max_bounds (level_over ts) one_more refl (λ _ _. refl) c.args.names.now in
    let least = max_least (level_over ts) one_more refl (λ _ _. refl) c.args.names.now 0 c.unwrap_or.result (search rules) in
    grind (arith, common_steps, bounds, least)
