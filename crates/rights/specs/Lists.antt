-- Membership in a list, lists that rise in a strict order, and a list with one element more or parted in two.
-- In: an element stands in a list. Inside: all of one list stands in another.
-- Rising: each element comes before all that follow it.
-- Placed: a rising list with one element more. Parted: what a property keeps of a list, and what it leaves out.
use Rattle.std.specs.Prelude.{◌≡◌, ◌⊎◌, List, [], ◌∷◌, ◌++◌}
use Rattle.std.specs.List.{AllByRecursion}

-- x stands in the list
abbrev pub In : {X : Type 0} → X → List X → Type 0
In x [] = ⊥
In x (y ∷ ys) = (x ≡ y) ⊎ In x ys

-- everything in the one list is in the other
abbrev pub Inside : {X : Type 0} → List X → List X → Type 0
Inside {X} xs ys = (x : X) → In x xs → In x ys

-- each element comes before all that follow it
abbrev pub Rising : {X : Type 0} → (X → X → Type 0) → List X → Type 0
Rising Before [] = Unit {0}
Rising Before (x ∷ xs) = AllByRecursion (Before x) xs × Rising Before xs

-- ys is xs with x in its place
unfoldable pub Placed : {X : Type 0} → (X → X → Type 0) → X → List X → List X → Type 0
Placed {X} Before x xs ys = (front : List X) × (back : List X) × (xs ≡ front ++ back) × (ys ≡ front ++ (x ∷ back)) × Rising Before ys

-- the list's elements with the property are kept, the others are left out, both in their order
pub data Parted {X : Type 0} (Keeps : X → Type 0) : List X → List X → List X → Type 0 where
  none : Parted Keeps [] [] []
  keep : {x : X} {xs kept out : List X} → Keeps x → Parted Keeps xs kept out → Parted Keeps (x ∷ xs) (x ∷ kept) out
  leave : {x : X} {xs kept out : List X} → (Keeps x → ⊥) → Parted Keeps xs kept out → Parted Keeps (x ∷ xs) kept (x ∷ out)
