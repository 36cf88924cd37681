-- An answer that is given exactly where something holds. Assumes nothing.
use Rattle.std.specs.Prelude.{◌≡◌, Some, Option}

-- o is Some x exactly where P holds of x
abbrev pub Exactly : {X : Type 0} → Option X → (X → Type 0) → Type 0
Exactly {X} o P = (x : X) → (o ≡ Some x → P x) × (P x → o ≡ Some x)
