-- Who holds which access entries. A subject holds an entry if it is within the entry's subject.
-- Gives: what an access entry says. Holds: a subject holds such an entry.
-- StrongPlus, StrongMinus: held strong entries; the owner of a base table counts as holding a strong plus.
use Rattle.std.specs.Prelude.{◌≡◌, ℕ, ◌⊎◌, List}
use Rattle.rights.specs.declared.entries.Entry.{Entry}
use Rattle.rights.specs.declared.entries.Pair.{Pair}
use Rattle.rights.specs.declared.vocabulary.Privilege.{Privilege}
use Rattle.rights.specs.declared.vocabulary.Right.{Right}
use Rattle.rights.specs.declared.vocabulary.Sign.{Sign}
use Rattle.rights.specs.declared.vocabulary.Strength.{Strength}
use Rattle.rights.specs.Lists.{In}
use Rattle.rights.specs.Tables.{Tables, IsBase, Owns}
use Rattle.rights.specs.Within.{Within}

-- e is an access entry on t for p, of this sign and strength
abbrev pub Gives : Entry → Privilege → Sign → ℕ → Strength → Type 0
Gives e p sign t r = (e.table ≡ t) × (e.right ≡ Right.Access p sign r)

module _ (pairs : List Pair) (entries : List Entry) where
  unfoldable pub Holds : ℕ → Privilege → Sign → ℕ → Strength → Type 0
  Holds s p sign t r = (e : Entry) × In e entries × Gives e p sign t r × Within pairs s e.subject

-- owning a view gives no strong plus
unfoldable pub StrongPlus : List Pair → Tables → List Entry → ℕ → Privilege → ℕ → Type 0
StrongPlus pairs tables entries s p t = Holds pairs entries s p Sign.Plus t Strength.Strong ⊎ (IsBase tables t × Owns tables s t)

unfoldable pub StrongMinus : List Pair → List Entry → ℕ → Privilege → ℕ → Type 0
StrongMinus pairs entries s p t = Holds pairs entries s p Sign.Minus t Strength.Strong

-- a minus stands on base tables only
abbrev pub MinusOnBases : Tables → List Entry → Type 0
MinusOnBases tables entries = (e : Entry) → In e entries → (p : Privilege) (r : Strength) → e.right ≡ Right.Access p Sign.Minus r → IsBase tables e.table
