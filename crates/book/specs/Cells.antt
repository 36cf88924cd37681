-- Cells: all entries of one subject, table and grantor, as a map of bits by bit number.
-- unpacked: the entries of a cell. held: those of a list of cells. KeyBefore: the order of cells.
-- climbs, numbered: the tests of a list that rises by key, and of its running counts. counted_on: the list with such counts.
-- turned: a cell with one entry put in or taken out.
-- CellFinding: where the cell of an entry stands or belongs.
use Rattle.std.specs.Prelude.{◌≡◌, ℕ, ◌+◌, ◌/◌, ◌%◌, ◌^◌, ◌<◌, ◌≤◌, Bool, true, cond, ◌&&◌, List, [], ◌∷◌, length, take, drop, Ok, Err, Result, ◌==◌, nat_lt, slice_index_or, bit_xor}
use Rattle.std.specs.List.{flat_map, list_all, AllByRecursion}
use Rattle.rights.specs.declared.entries.Entry.{Entry}
use Rattle.rights.specs.declared.vocabulary.Right.{Right}
use Rattle.rights.specs.Bits.{bit, rows}
use Rattle.rights.specs.Entries.{Then, then_test}
use Rattle.book.specs.declared.keyed.Cell.{Cell}

-- bit k of the map m is set
unfoldable pub has : ℕ → ℕ → Bool
has m k = m / 2 ^ k % 2 == 1

abbrev pub entry_of : Cell → Right → Entry
entry_of c r = record { subject = c.subject; table = c.table; grantor = c.grantor; right = r }

-- the entries of those rights whose bits are set
unfoldable pub picked : (Right → Entry) → ℕ → List Right → List Entry
picked entry m [] = []
picked entry m (r ∷ rs) = cond (has m (bit r)) (entry r ∷ picked entry m rs) (picked entry m rs)

abbrev pub unpacked : Cell → List Entry
unpacked c = picked (entry_of c) c.rights rows

abbrev pub held : List Cell → List Entry
held cs = flat_map unpacked cs

-- by subject, then table, then grantor
unfoldable pub KeyBefore : Cell → Cell → Type 0
KeyBefore c d = Then c.subject d.subject (Then c.table d.table (c.grantor < d.grantor))

unfoldable pub key_before : Cell → Cell → Bool
key_before c d = then_test c.subject d.subject (then_test c.table d.table (nat_lt c.grantor d.grantor))

unfoldable pub climbs : List Cell → Bool
climbs [] = true
climbs (c ∷ cs) = list_all (key_before c) cs && climbs cs

-- no cell is empty, and each tells how many entries the cells before it hold, n before the first
unfoldable pub numbered : ℕ → List Cell → Bool
numbered n [] = true
numbered n (c ∷ cs) = (c.earlier == n && nat_lt 0 (length (unpacked c))) && numbered (n + length (unpacked c)) cs

abbrev pub recounted : Cell → ℕ → Cell
recounted c n = record { subject = c.subject; table = c.table; grantor = c.grantor; rights = c.rights; earlier = n }

-- the same cells with the running counts, n before the first
unfoldable pub counted_on : ℕ → List Cell → List Cell
counted_on n [] = []
counted_on n (c ∷ cs) = recounted c n ∷ counted_on (n + length (unpacked c)) cs

-- the cell with the bit of a right turned
abbrev pub turned : Cell → Right → Cell
turned c r = record { subject = c.subject; table = c.table; grantor = c.grantor; rights = bit_xor c.rights (2 ^ bit r); earlier = c.earlier }

-- an empty cell with the key of an entry
abbrev pub key_cell : Entry → Cell
key_cell e = record { subject = e.subject; table = e.table; grantor = e.grantor; rights = 0; earlier = 0 }

-- the cell that has the key of e stands at k, or none has it and one would belong at k
abbrev pub CellFinding : Entry → List Cell → Result ℕ ℕ → Type 0
CellFinding e cs (Ok k) = (k < length cs) × (e ≡ entry_of (slice_index_or cs k (key_cell e)) e.right)
CellFinding e cs (Err k) = (k ≤ length cs) × AllByRecursion (λ c. KeyBefore c (key_cell e)) (take k cs) × AllByRecursion (KeyBefore (key_cell e)) (drop k cs)
