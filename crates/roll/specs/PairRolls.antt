-- What a pair roll shows: its pairs, its ceiling, the caller's list, and what a change leaves of that list.
use Rattle.std.specs.Prelude.{ℕ, List}
use Rattle.rights.specs.declared.entries.Pair.{Pair}
use Rattle.roll.specs.declared.pair_roll.PairRoll.{PairRoll}
use Rattle.rising.specs.Fronts as fronts

-- the pairs that stand, rising
abbrev pub pairs_of : PairRoll → List Pair
pairs_of x = fronts.stored x.front

abbrev pub ceiling_of : PairRoll → ℕ
ceiling_of x = x.most

-- the whole list that the roll was made over
abbrev pub list_of : PairRoll → List Pair
list_of x = fronts.whole x.front

-- past the pairs that stand after, each place of the list holds what it held before
abbrev pub SameRest : PairRoll → PairRoll → Type 0
SameRest x after = fronts.SameRest x.front after.front
