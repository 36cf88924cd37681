-- The derived orders of pairs and of entries are the rules' own.
use Rattle.std.proofs.Common.{◌≡◌, ℕ, ◌+◌, ◌*◌, ◌<◌, ◌≤◌, refl, arith}
use Rattle.std.specs.Ordering.{MatchOrdering, nat_cmp, ordering_then}
use Rattle.std.specs.declared.cmp.Ordering.{Ordering}
use Rattle.std.proofs.lemmas.Cmp.{ranked}
use Rattle.std.proofs.lemmas.Bool.Decides.{nat_tests}
use Rattle.rights.specs.declared.entries.Entry.{Entry}
use Rattle.rights.specs.declared.entries.Pair.{Pair}
use Rattle.rights.specs.declared.vocabulary.Right.{Right}
use Rattle.rights.specs.declared.vocabulary.Privilege.{Privilege}
use Rattle.rights.specs.declared.vocabulary.Sign.{Sign}
use Rattle.rights.specs.declared.vocabulary.Strength.{Strength}
use Rattle.rights.specs.declared.vocabulary.Kind.{Kind}
use Rattle.rights.specs.declared.vocabulary.Rank.{Rank}
use Rattle.rights.specs.Numbers.{privilege_number, sign_number, strength_number, kind_number, rank_number}
use Rattle.rights.specs.Entries.{Then, Before}
use Rattle.rights.specs.Bits.{bit}
use Rattle.rights.specs.Pairs.{Before as PairBefore}
use Rattle.rights.proofs.Bits.{privilege_few, sign_few, strength_few, kind_few, rank_few, bit_injective}
use Rattle.rights.specs.contracts.entries.PairOrd.TheImpl as pair_ord
use Rattle.rights.specs.contracts.entries.EntryOrd.TheImpl as entry_ord
use Rattle.rights.specs.contracts.vocabulary.RightOrd.TheImpl as right_ord
use Rattle.rights.specs.contracts.vocabulary.PrivilegeOrd.TheImpl as privilege_ord
use Rattle.rights.specs.contracts.vocabulary.SignOrd.TheImpl as sign_ord
use Rattle.rights.specs.contracts.vocabulary.StrengthOrd.TheImpl as strength_ord
use Rattle.rights.specs.contracts.vocabulary.KindOrd.TheImpl as kind_ord
use Rattle.rights.specs.contracts.vocabulary.RankOrd.TheImpl as rank_ord
use Rattle.rights.specs.declared.vocabulary.Privilege.TheVariants.{Select}
use Rattle.rights.specs.declared.vocabulary.Sign.TheVariants.{Plus, Minus}
use Rattle.rights.specs.declared.vocabulary.Strength.TheVariants as strength
use Rattle.rights.specs.declared.vocabulary.Kind.TheVariants.{AdmAccess, Administer}
use Rattle.rights.specs.declared.vocabulary.Rank.TheVariants as rank

privilege_order : (x y : Privilege) → (privilege_ord.ghosts).cmp x y ≡ nat_cmp (privilege_number x) (privilege_number y)
privilege_order = elim [ Select ↦ elim [ Select ↦ refl | _ ↦ refl ] | _ ↦ elim [ Select ↦ refl | _ ↦ refl ] ]

sign_order : (x y : Sign) → (sign_ord.ghosts).cmp x y ≡ nat_cmp (sign_number x) (sign_number y)
sign_order = elim [ Plus ↦ elim [ Plus ↦ refl | Minus ↦ refl ] | Minus ↦ elim [ Plus ↦ refl | Minus ↦ refl ] ]

strength_order : (x y : Strength) → (strength_ord.ghosts).cmp x y ≡ nat_cmp (strength_number x) (strength_number y)
strength_order = elim [ strength.Weak ↦ elim [ strength.Weak ↦ refl | strength.Strong ↦ refl ] | strength.Strong ↦ elim [ strength.Weak ↦ refl | strength.Strong ↦ refl ] ]

kind_order : (x y : Kind) → (kind_ord.ghosts).cmp x y ≡ nat_cmp (kind_number x) (kind_number y)
kind_order = elim [ AdmAccess ↦ elim [ AdmAccess ↦ refl | Administer ↦ refl ] | Administer ↦ elim [ AdmAccess ↦ refl | Administer ↦ refl ] ]

rank_order : (x y : Rank) → (rank_ord.ghosts).cmp x y ≡ nat_cmp (rank_number x) (rank_number y)
rank_order = elim [ rank.Weak ↦ elim [ rank.Weak ↦ refl | rank.Strong ↦ refl ] | rank.Strong ↦ elim [ rank.Weak ↦ refl | rank.Strong ↦ refl ] ]

by_three : (a b c x y z : ℕ) → b ≤ 1 → c ≤ 1 → y ≤ 1 → z ≤ 1 →
    ordering_then (nat_cmp a x) (ordering_then (nat_cmp b y) (nat_cmp c z)) ≡ nat_cmp (4 * a + (2 * b + c)) (4 * x + (2 * y + z))
by_three a b c x y z hb hc hy hz = grind (arith, nat_tests)

shifted : (n a b : ℕ) → nat_cmp a b ≡ nat_cmp (n + a) (n + b)
shifted n a b = grind (arith, nat_tests)

-- rights are in the order of their bit numbers
pub right_order : (r q : Right) → (right_ord.ghosts).cmp r q ≡ nat_cmp (bit r) (bit q)
right_order (Right.Access p s t) (Right.Access p' s' t') =
    rw (privilege_order p p', sign_order s s', strength_order t t') (by_three _ _ _ _ _ _ (sign_few s) (strength_few t) (sign_few s') (strength_few t'))
right_order (Right.Access p s t) (Right.Admin p' k r) =
    let hp = privilege_few p in let hs = sign_few s in let ht = strength_few t in grind (arith, nat_tests)
right_order (Right.Admin p k r) (Right.Access p' s t) =
    let hp = privilege_few p' in let hs = sign_few s in let ht = strength_few t in grind (arith, nat_tests)
right_order (Right.Admin p k r) (Right.Admin p' k' r') =
    rw (privilege_order p p', kind_order k k', rank_order r r', by_three _ _ _ _ _ _ (kind_few k) (rank_few r) (kind_few k') (rank_few r')) (shifted 16 (4 * privilege_number p + (2 * kind_number k + rank_number r)) (4 * privilege_number p' + (2 * kind_number k' + rank_number r')))

pub pair_order : (p q : Pair) → MatchOrdering ((pair_ord.ghosts).cmp p q) (PairBefore p q) (p ≡ q) (PairBefore q p)
pair_order p q = grind (arith, nat_tests)

-- what the answer of a comparison says
pub record Says (o : Ordering) (Less Same More : Type 0) : Type 0 where
  pub that : MatchOrdering o Less Same More

-- the first parts decide, and where they are equal the rest
pub then_order : (a b : ℕ) {o : Ordering} {Less Same More : Type 0} → Says o Less Same More →
    Says (ordering_then (nat_cmp a b) o) (Then a b Less) ((a ≡ b) × Same) (Then b a More)
then_order a b {o} {Less} {Same} {More} h = record { that = split o h.that }
  where
    split : (o : Ordering) → MatchOrdering o Less Same More → MatchOrdering (ordering_then (nat_cmp a b) o) (Then a b Less) ((a ≡ b) × Same) (Then b a More)
    split Ordering.Less h = grind (arith, nat_tests)
    split Ordering.Equal h = grind (arith, nat_tests)
    split Ordering.Greater h = grind (arith, nat_tests)

pub same_where : {o : Ordering} {Less Same More : Type 0} → Says o Less Same More → (Same' : Type 0) → (Same → Same') → MatchOrdering o Less Same' More
same_where {o} {Less} {Same} {More} h Same' f = cases o h.that
  where
    cases : (o : Ordering) → MatchOrdering o Less Same More → MatchOrdering o Less Same' More
    cases Ordering.Less k = k
    cases Ordering.Equal k = f k
    cases Ordering.Greater k = k

pub bits : (a b : ℕ) → Says (nat_cmp a b) (a < b) (a ≡ b) (b < a)
bits a b = record { that = ranked a b _ refl }

pub entry_order : (e f : Entry) → MatchOrdering ((entry_ord.ghosts).cmp e f) (Before e f) (e ≡ f) (Before f e)
unfolding Before
entry_order e f =
    let h = then_order e.subject f.subject (then_order e.table f.table (then_order e.grantor f.grantor (bits (bit e.right) (bit f.right)))) in
    rw (right_order e.right f.right)
    (same_where h (e ≡ f) (λ w. λ i. record { subject = w.0 i; table = w.1.0 i; grantor = w.1.1.0 i; right = bit_injective e.right f.right w.1.1.1 i }))
