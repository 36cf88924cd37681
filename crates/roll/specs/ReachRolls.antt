-- What a reach roll shows: what the pair roll in it shows.
use Rattle.std.specs.Prelude.{ℕ, List}
use Rattle.rights.specs.declared.entries.Pair.{Pair}
use Rattle.roll.specs.declared.reach_roll.ReachRoll.{ReachRoll}
use Rattle.roll.specs.PairRolls as pair_rolls

abbrev pub pairs_of : ReachRoll → List Pair
pairs_of x = pair_rolls.pairs_of x.pairs

abbrev pub ceiling_of : ReachRoll → ℕ
ceiling_of x = pair_rolls.ceiling_of x.pairs

abbrev pub list_of : ReachRoll → List Pair
list_of x = pair_rolls.list_of x.pairs

abbrev pub SameRest : ReachRoll → ReachRoll → Type 0
SameRest x after = pair_rolls.SameRest x.pairs after.pairs
