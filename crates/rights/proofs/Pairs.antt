-- Laws of the order of pairs: its test decides it, it is strict and total.
use Rattle.std.proofs.Common.{◌≡◌, Bool, not, ◌&&◌, ◌||◌, eqb, ltb, leb, ◌⊎◌, Decides, arith}
use Rattle.std.proofs.lemmas.Bool.Decides.{nat_tests}
use Rattle.rights.specs.declared.entries.Pair.{Pair}
use Rattle.rights.specs.Pairs.{Before}

abbrev pub pair_before : Pair → Pair → Bool
pair_before a b = leb a.member b.member && (not (eqb a.member b.member) || ltb a.group b.group)

pub decides_pair_before : (a b : Pair) → Decides (pair_before a b) (Before a b)
decides_pair_before a b = grind (arith, nat_tests)

pub pair_one_way : (a b : Pair) → Before a b → Before b a → ⊥
pair_one_way a b p q = grind (arith, nat_tests)

pub pair_transitive : (a b c : Pair) → Before a b → Before b c → Before a c
pair_transitive a b c p q = grind (arith, nat_tests)

pub pair_total : (a b : Pair) → (a ≡ b) ⊎ (Before a b ⊎ Before b a)
pair_total a b = grind (arith, nat_tests)
