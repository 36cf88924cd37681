-- Ordered lists of checks, and the first of them that applies.
-- Check: a condition and what is answered where it holds. First: the answer of the first check that applies.
use Rattle.std.specs.Prelude.{◌≡◌, ◌⊎◌, List, [], ◌∷◌, Some, None, Ok, Err, Option, Result}

pub record Check (F : Type 0) : Type 1 where
  pub gives : F
  pub when : Type 0

-- f is given where P holds and no earlier check applied
abbrev pub refuse : {F : Type 0} → F → Type 0 → Check F
refuse f P = record { gives = f; when = P }

-- r is the answer of the first check that applies, or None where none does
unfoldable pub First : {F : Type 0} → List (Check F) → Option F → Type 0
First [] r = r ≡ None
First (c ∷ cs) r = (c.when × (r ≡ Some c.gives)) ⊎ ((c.when → ⊥) × First cs r)

-- the fault that a call answered, if it refused
abbrev pub fault_of : {T F : Type 0} → Result T F → Option F
fault_of (Ok x) = None
fault_of (Err f) = Some f
