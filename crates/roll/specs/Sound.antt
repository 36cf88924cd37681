-- What every roll keeps, however it keeps it.
-- Sound: its pairs rise, are in range, and make no loop. Kept: they are also no more than its ceiling.
use Rattle.std.specs.Prelude.{ℕ, ◌≤◌, List, length}
use Rattle.std.specs.List.{AllByRecursion}
use Rattle.rights.specs.declared.entries.Pair.{Pair}
use Rattle.rights.specs.Pairs.{Proper, RisingPairs}
use Rattle.rights.specs.Within.{Loopless}

pub record Sound (pairs : List Pair) : Type 0 where
  -- so no pair stands twice
  pub rising : RisingPairs pairs
  pub proper : AllByRecursion Proper pairs
  pub loopless : Loopless pairs

pub record Kept (pairs : List Pair) (ceiling : ℕ) : Type 0 where
  pub sound : Sound pairs
  pub few : length pairs ≤ ceiling
  pub limit : ceiling ≤ 2048
