-- Clash: a subject that holds a strong plus and a strong minus for one privilege,
-- the minus on the same table as the plus or beneath it.
use Rattle.std.specs.Prelude.{ℕ, List}
use Rattle.rights.specs.declared.entries.Entry.{Entry}
use Rattle.rights.specs.declared.entries.Pair.{Pair}
use Rattle.rights.specs.declared.vocabulary.Privilege.{Privilege}
use Rattle.rights.specs.Holding.{StrongPlus, StrongMinus}
use Rattle.rights.specs.Tables.{Tables, AtOrBeneath}

module _ (pairs : List Pair) (tables : Tables) (entries : List Entry) where
  unfoldable pub Clash : ℕ → Type 0
  Clash s = (p : Privilege) × (t : ℕ) × (b : ℕ) × StrongPlus pairs tables entries s p t × AtOrBeneath tables b t × StrongMinus pairs entries s p b

  -- some subject is a clash
  unfoldable pub Clashing : Type 0
  Clashing = (s : ℕ) × Clash s
