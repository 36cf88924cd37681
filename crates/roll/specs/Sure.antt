-- What every roll keeps is so in one way only.
use Rattle.std.proofs.Math.Logic.{∥∥₁_elim}
use Rattle.std.specs.Prelude.{ℕ, List, [], ◌∷◌, refl}
use mathlib.Core.HLevel.{Π_prop, ×_prop}
use Rattle.std.proofs.Math.Bridge.{le_prop}
use Rattle.std.specs.List.{AllByRecursion}
use Rattle.rights.specs.declared.entries.Pair.{Pair}
use Rattle.rights.specs.Pairs.{Before, Proper, RisingPairs}
use Rattle.rights.specs.Within.{Loopless}
use Rattle.roll.specs.Sound.{Sound, Kept}

all_prop : (P : Pair → Type 0) → ((p : Pair) → IsProp (P p)) → (ps : List Pair) → IsProp (AllByRecursion P ps)
all_prop P one [] = λ x y. refl
all_prop P one (p ∷ ps) = ×_prop (one p) (all_prop P one ps)

pub rising_prop : (ps : List Pair) → IsProp (RisingPairs ps)
rising_prop [] = λ x y. refl
rising_prop (p ∷ ps) = ×_prop (all_prop (Before p) (λ q. ×_prop le_prop (Π_prop (λ _. le_prop))) ps) (rising_prop ps)

proper_prop : (p : Pair) → IsProp (Proper p)
proper_prop p = ×_prop (×_prop le_prop le_prop) (×_prop le_prop le_prop)

loopless_prop : (ps : List Pair) → IsProp (Loopless ps)
unfolding Loopless
loopless_prop ps = Π_prop (λ s. Π_prop (λ _. λ x. absurd x))

pub sound_prop : (ps : List Pair) → IsProp (Sound ps)
sound_prop ps x y i = record {
  rising = rising_prop ps x.rising y.rising i;
  proper = all_prop Proper proper_prop ps x.proper y.proper i;
  loopless = loopless_prop ps x.loopless y.loopless i;
}

-- what a type keeps of a roll's pairs, taken out
pub sound_sure : (ps : List Pair) → ∥ Sound ps ∥₁ → Sound ps
sound_sure ps h = ∥∥₁_elim h (sound_prop ps) (λ s. s)

-- so a type may keep it as it is
pub kept_prop : (ps : List Pair) (ceiling : ℕ) → IsProp (Kept ps ceiling)
kept_prop ps ceiling x y i = record { sound = sound_prop ps x.sound y.sound i; few = le_prop x.few y.few i; limit = le_prop x.limit y.limit i }
