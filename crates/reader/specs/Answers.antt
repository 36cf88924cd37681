-- The text of an answer, and what a buffer holds after it. Assumes nothing.
-- answer_line: the line's number, a space, the answer, byte 10. placed: a text in the place of other bytes.
use Rattle.std.specs.Prelude.{◌≡◌, ℕ, ◌+◌, ◌<◌, ◌≤◌, List, [], ◌∷◌, ◌++◌, length, take, drop, Ok, Err, codes, decimal, Result}
use Rattle.rights.specs.declared.commands.Answer.{Answer}
use Rattle.rights.specs.declared.faults.RegisterFault.{RegisterFault}
use Rattle.rights.specs.Faults.{number, layer}
use Rattle.rights.specs.Numbers.{ground_number}

abbrev pub answer_text : Answer → List ℕ
answer_text Answer.Done = codes "ok"
answer_text (Answer.Struck n) = codes "ok " ++ decimal n
answer_text (Answer.Yes g) = codes "yes " ++ decimal (ground_number g)
answer_text (Answer.No g) = codes "no " ++ decimal (ground_number g)
answer_text (Answer.Refused f) = codes "refused " ++ decimal (number f) ++ (codes " " ++ decimal (layer f))

unfoldable pub answer_line : ℕ → Answer → List ℕ
answer_line n a = decimal n ++ codes " " ++ answer_text a ++ 10 ∷ []

-- the bytes with text in the place of as many from at on
unfoldable pub placed : ℕ → List ℕ → List ℕ → List ℕ
placed at text bytes = take at bytes ++ (text ++ drop (at + length text) bytes)

-- text was written from at to end
pub record Put (at : ℕ) (text before : List ℕ) (end : ℕ) (after : List ℕ) : Type 0 where
  pub bytes : after ≡ placed at text before
  pub past : end ≡ at + length text

-- the buffer holds the answer and then what it held, or is under 32 bytes and as before
abbrev pub Answered : ℕ → Answer → List ℕ → Result ℕ RegisterFault → List ℕ → Type 0
Answered n a before (Ok k) after = (32 ≤ length before) × (k ≡ length (answer_line n a)) × (after ≡ answer_line n a ++ drop k before)
Answered n a before (Err f) after = (length before < 32) × (f ≡ RegisterFault.ShortList) × (after ≡ before)
