-- The lines of a sheet, and the parts of a line. Assumes nothing.
-- Without: a byte stands nowhere in a list. lines: each byte 10 ends a line, and what follows the last one
-- is a line unless empty. parts: what stands between the spaces (byte 32) of a line, before and after them.
use Rattle.std.specs.Prelude.{ℕ, cond, List, [], ◌∷◌, ◌==◌, ◌≢◌}
use Rattle.std.specs.List.{AllByRecursion}

-- no byte of bs is b
abbrev pub Without : ℕ → List ℕ → Type 0
Without b bs = AllByRecursion (λ x. x ≢ b) bs

-- b in front of the first piece, or a piece of its own where there is none
abbrev pub onto : ℕ → List (List ℕ) → List (List ℕ)
onto b [] = (b ∷ []) ∷ []
onto b (l ∷ ls) = (b ∷ l) ∷ ls

unfoldable pub lines : List ℕ → List (List ℕ)
lines [] = []
lines (b ∷ bs) = cond (b == 10) ([] ∷ lines bs) (onto b (lines bs))

unfoldable pub parts : List ℕ → List (List ℕ)
parts [] = [] ∷ []
parts (b ∷ bs) = cond (b == 32) ([] ∷ parts bs) (onto b (parts bs))
