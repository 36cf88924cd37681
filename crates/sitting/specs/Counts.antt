-- The number of commands that a sitting has carried out, and the refusal of an opening.
use Rattle.std.specs.Prelude.{◌≡◌, ℕ, ◌+◌, min, Some, None, Ok, Err, Option, Result, MatchResult}

-- one more, up to the largest number of 32 bits
abbrev pub counted : ℕ → ℕ
counted n = min (n + 1) 4294967295

-- a command that is carried out counts, a refused one does not
abbrev pub Counted : {T F : Type 0} → Result T F → ℕ → ℕ → Type 0
Counted r before after = MatchResult r (λ _. after ≡ counted before) (λ _. after ≡ before)

-- the fault of a call that gives something back beside it
abbrev pub refusal : {T S F : Type 0} → Result T (S × F) → Option F
refusal (Ok x) = None
refusal (Err back) = Some back.1
