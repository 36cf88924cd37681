-- The order of entries, and which entries a book may hold.
-- Before: by subject, then table, then grantor, then bit number. Proper: every number is in its range.
-- before, same_entry, proper and sound are the tests of the order, of equality, of Proper, and of a rising list of proper entries.
use Rattle.std.specs.Prelude.{◌≡◌, ℕ, ◌<◌, Bool, true, ◌&&◌, ◌||◌, ◌⊎◌, List, [], ◌∷◌, ◌==◌, nat_le, nat_lt}
use Rattle.std.specs.List.{list_all}
use Rattle.rights.specs.declared.entries.Entry.{Entry}
use Rattle.rights.specs.Bits.{bit}
use Rattle.rights.specs.Lists.{Rising}
use Rattle.rights.specs.Numbers.{SubjectNumber, TableNumber}

-- a is the lesser, or they are equal and the rest decides
abbrev pub Then : ℕ → ℕ → Type 0 → Type 0
Then a b rest = (a < b) ⊎ ((a ≡ b) × rest)

unfoldable pub Before : Entry → Entry → Type 0
Before e f = Then e.subject f.subject (Then e.table f.table (Then e.grantor f.grantor (bit e.right < bit f.right)))

-- a grantor is a person, so never 0
abbrev pub Proper : Entry → Type 0
Proper e = SubjectNumber e.subject × TableNumber e.table × SubjectNumber e.grantor

abbrev pub RisingEntries : List Entry → Type 0
RisingEntries es = Rising Before es

abbrev pub then_test : ℕ → ℕ → Bool → Bool
then_test a b rest = nat_lt a b || (a == b && rest)

-- the test of Before
unfoldable pub before : Entry → Entry → Bool
before e f = then_test e.subject f.subject (then_test e.table f.table (then_test e.grantor f.grantor (nat_lt (bit e.right) (bit f.right))))

-- the test of e ≡ f; no two rights have one bit number
unfoldable pub same_entry : Entry → Entry → Bool
same_entry e f = e.subject == f.subject && (e.table == f.table && (e.grantor == f.grantor && bit e.right == bit f.right))

-- the test of Proper
abbrev pub proper : Entry → Bool
proper e = (nat_le 1 e.subject && nat_le e.subject 255) && (nat_le e.table 127 && (nat_le 1 e.grantor && nat_le e.grantor 255))

-- the test that a list rises and that every entry in it is proper
unfoldable pub sound : List Entry → Bool
sound [] = true
sound (e ∷ es) = (proper e && list_all (before e) es) && sound es
