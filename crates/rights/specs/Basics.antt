-- The laws that the others rest on: of within, of holding, of bit numbers, and of the order of entries.
-- BasicLaws: all of them.
use Rattle.std.specs.Prelude.{◌≡◌, ℕ, ◌<◌, ◌⊎◌, List, slice_index_or}
use Rattle.rights.specs.declared.entries.Entry.{Entry}
use Rattle.rights.specs.declared.entries.Pair.{Pair}
use Rattle.rights.specs.declared.vocabulary.Privilege.{Privilege}
use Rattle.rights.specs.declared.vocabulary.Right.{Right}
use Rattle.rights.specs.declared.vocabulary.Sign.{Sign}
use Rattle.rights.specs.declared.vocabulary.Strength.{Strength}
use Rattle.rights.specs.Bits.{bit, rows}
use Rattle.rights.specs.Entries.{Before}
use Rattle.rights.specs.Holding.{Holds}
use Rattle.rights.specs.Lists.{Inside}
use Rattle.rights.specs.Within.{Within}

pub record BasicLaws : Type 0 where
  -- within is reflexive and transitive, grows with the pairs, and can be told
  pub within_itself : (pairs : List Pair) (s : ℕ) → Within pairs s s
  pub within_through : (pairs : List Pair) (s h g : ℕ) → Within pairs s h → Within pairs h g → Within pairs s g
  pub within_grows : (ps qs : List Pair) → Inside ps qs → (s g : ℕ) → Within ps s g → Within qs s g
  pub within_told : (pairs : List Pair) (s g : ℕ) → Within pairs s g ⊎ (Within pairs s g → ⊥)
  -- holding grows with pairs and entries
  pub holding_grows : (ps qs : List Pair) → Inside ps qs → (es fs : List Entry) → Inside es fs → (s : ℕ) (p : Privilege) (sign : Sign) (t : ℕ) (r : Strength) → Holds ps es s p sign t r → Holds qs fs s p sign t r
  -- bit numbers are below 32, no two rights share one, and from its number a right comes back
  pub bits_few : (r : Right) → bit r < 32
  pub bits_apart : (r q : Right) → bit r ≡ bit q → r ≡ q
  pub bits_back : (r d : Right) → slice_index_or rows (bit r) d ≡ r
  -- the order of entries is strict and total
  pub never_before_itself : (e : Entry) → Before e e → ⊥
  pub before_through : (e f g : Entry) → Before e f → Before f g → Before e g
  pub one_first : (e f : Entry) → (e ≡ f) ⊎ (Before e f ⊎ Before f e)
