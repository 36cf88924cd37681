use Rattle.std.proofs.Common.{◌≡◌, false, ◌||◌, get_or, rules}
use Rattle.rights.proofs.Arrays.{made_at}
use Rattle.roll.proofs.table.merged.Goals as goal

pub returns : goal.returns
returns c = λ h l. made_at _ (λ k b. b ≡ (get_or c.args.row.now k false || get_or c.args.above.now k false)) _ (λ i y q called. search rules) c.from_fn.result false 256 c.from_fn.ensures.items h l
