-- Chains: why an entry stands. A list, the latest entry first, in which each grantor's cover comes from
-- ownership and earlier entries of that list only.
-- HasChain: an entry ends such a list of standing entries. Revoked: what a revocation keeps and what it strikes.
use Rattle.std.specs.Prelude.{List, [], ◌∷◌, ◌≢◌}
use Rattle.rights.specs.declared.entries.Entry.{Entry}
use Rattle.rights.specs.Cover.{Supported}
use Rattle.rights.specs.Lists.{In, Parted}
use Rattle.rights.specs.Tables.{Tables}

-- an entry other than the one revoked, among those that stand
abbrev pub Others : List Entry → Entry → Entry → Type 0
Others entries named e = In e entries × (e ≢ named)

module _ (tables : Tables) where
  -- every entry of the list stands and is supported by those before it, which are those further on in the list
  abbrev pub Chain : (Entry → Type 0) → List Entry → Type 0
  Chain Standing [] = Unit {0}
  Chain Standing (e ∷ earlier) = Standing e × Supported tables earlier e × Chain Standing earlier

  -- among the entries that stand, e ends a chain
  unfoldable pub HasChain : (Entry → Type 0) → Entry → Type 0
  HasChain Standing e = (earlier : List Entry) × Chain Standing (e ∷ earlier)

  -- the named entry is struck, and then every entry without a chain in what is left
  unfoldable pub Revoked : Entry → List Entry → List Entry → List Entry → Type 0
  Revoked named entries kept struck = Parted (HasChain (Others entries named)) entries kept struck
