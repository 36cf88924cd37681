-- What a reader gives, one line after the other, and where it then stands.
use Rattle.std.specs.Prelude.{◌≡◌, ℕ, ◌+◌, ◌<◌, ◌≤◌, min, Option, Some, None, List, [], ◌∷◌, map, length, slice_index, take, drop, decimal, nat_lt}
use Rattle.std.specs.Bool.{then_some}
use Rattle.std.specs.List.{between, AllByRecursion}
use Rattle.reader.specs.declared.shapes.Reader.{Reader}
use Rattle.reader.specs.declared.shapes.Line.{Line}
use Rattle.reader.specs.declared.shapes.Part.{Part}
use Rattle.reader.specs.declared.shapes.Parts.{Parts}
use Rattle.reader.specs.Lines.{Without, lines, parts}

-- the bytes of the whole sheet
abbrev pub sheet : Reader → List ℕ
sheet r = r.bytes.now

-- what was not yet given of it
abbrev pub rest : Reader → List ℕ
rest r = drop r.at (sheet r)

-- part stands in bytes at a place
abbrev pub Stands : List ℕ → ℕ → List ℕ → Type 0
Stands bytes at part = (take (length part) (drop at bytes) ≡ part) × (at + length part ≤ length bytes)

-- the piece of bytes from i on ends at j: at the first stop, where next is the place past it, or with the bytes
pub record Cut (stop : ℕ) (bytes : List ℕ) (i j : ℕ) (next : Option ℕ) : Type 0 where
  pub within : (i ≤ j) × (j ≤ length bytes)
  pub without : Without stop (between i j bytes)
  pub stops : j < length bytes → slice_index bytes j ≡ stop
  pub past : next ≡ then_some (nat_lt j (length bytes)) (j + 1)

-- r is at the front of the sheet; where that is over 32,768 bytes, of an empty one
pub record Begun (bytes : List ℕ) (r : Reader) : Type 0 where
  pub whole : length bytes ≤ 32768 → sheet r ≡ bytes
  pub empty : 32768 < length bytes → sheet r ≡ []
  pub front : r.at ≡ 0
  pub uncounted : r.line ≡ 0

-- there is no further line, and the reader stays
abbrev pub Ended : Reader → Reader → Type 0
Ended r s = (lines (rest r) ≡ []) × (s ≡ r)

-- l is the next line of r, and s is the reader after it
pub record Next (r : Reader) (l : Line) (s : Reader) : Type 0 where
  pub first : lines (rest r) ≡ l.bytes.now ∷ lines (rest s)
  pub number : l.number ≡ r.line + 1
  pub place : l.at ≡ r.at
  pub stands : Stands (sheet r) l.at l.bytes.now
  pub same : sheet s ≡ sheet r
  pub counted : s.line ≡ r.line + 1
  pub onward : r.at < s.at
  pub past : s.at ≡ min (length (sheet r)) (l.at + length l.bytes.now + 1)

-- the parts of a line from a place on, if there is a place
abbrev pub parts_from : List ℕ → Option ℕ → List (List ℕ)
parts_from line None = []
parts_from line (Some i) = parts (drop i line)

-- the parts of a line that were not yet given
abbrev pub left : Parts → List (List ℕ)
left p = parts_from p.line.now p.at

-- p has every part of the line to give
pub record Opened (l : Line) (p : Parts) : Type 0 where
  pub whole : left p ≡ parts l.bytes.now
  pub line : p.line.now ≡ l.bytes.now
  pub front : p.at ≡ Some 0

-- there is no further part, and p stays
abbrev pub NoPart : Parts → Parts → Type 0
NoPart p q = (left p ≡ []) × (q ≡ p)

-- x is the next part of p, and q is p after it
pub record NextPart (p : Parts) (x : Part) (q : Parts) : Type 0 where
  pub first : left p ≡ x.bytes.now ∷ left q
  pub place : p.at ≡ Some x.at
  pub stands : Stands p.line.now x.at x.bytes.now
  -- in a sheet it stands as far from the line's place as in the line from the front
  pub within : (bytes : List ℕ) (at : ℕ) → Stands bytes at p.line.now → Stands bytes (at + x.at) x.bytes.now
  pub same : q.line.now ≡ p.line.now
  -- the next one begins past the space that ended it, or it was the last
  pub past : q.at ≡ (let end = x.at + length x.bytes.now in then_some (nat_lt end (length p.line.now)) (end + 1))

-- the parts ps are the numbers ns, at most sixteen and each of at most three digits
pub record Numbered (ps : List (List ℕ)) (ns : List ℕ) : Type 0 where
  pub digits : map decimal ns ≡ ps
  pub short : AllByRecursion (λ n. n ≤ 999) ns
  pub few : length ns ≤ 16
