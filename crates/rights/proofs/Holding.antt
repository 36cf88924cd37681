-- The laws of holding: it grows with the pairs and with the entries, and tests decide it.
use Rattle.std.proofs.Common.{◌≡◌, ℕ, Bool, ◌&&◌, ◌||◌, eqb, List, Decides, inl, inr, arith}
use Rattle.std.specs.List.{list_any}
use Rattle.std.proofs.lemmas.Bool.Decides.{nat_tests, Decides-eqb, Decides-and, Decides-or, Decides-like}
use Rattle.rights.specs.declared.entries.Entry.{Entry}
use Rattle.rights.specs.declared.entries.Pair.{Pair}
use Rattle.rights.specs.declared.vocabulary.Privilege.{Privilege}
use Rattle.rights.specs.declared.vocabulary.Right.{Right}
use Rattle.rights.specs.declared.vocabulary.Sign.{Sign}
use Rattle.rights.specs.declared.vocabulary.Strength.{Strength}
use Rattle.rights.specs.Access.{WeakAt}
use Rattle.rights.specs.Bits.{bit}
use Rattle.rights.specs.Entries.{same_entry}
use Rattle.rights.specs.Holding.{Gives, Holds, StrongPlus, StrongMinus}
use Rattle.rights.specs.Lists.{In, Inside}
use Rattle.rights.specs.Tables.{Tables, Extends}
use Rattle.rights.specs.Within.{Within}
use Rattle.rights.proofs.Bits.{bit_injective}
use Rattle.rights.proofs.Deciding.{decides_some, decides_in}
use Rattle.rights.proofs.Order.{decides_same}
use Rattle.rights.proofs.Tables.{base_test, owns_test, decides_base, decides_owns}
use Rattle.rights.proofs.Within.{within_grows, within_test, decides_within}

-- more pairs and more entries, more is held
module _ (ps qs : List Pair) (pairs_in : Inside ps qs) (es fs : List Entry) (entries_in : Inside es fs) where
  pub holds_grows : (s : ℕ) (p : Privilege) (sign : Sign) (t : ℕ) (r : Strength) → Holds ps es s p sign t r → Holds qs fs s p sign t r
  unfolding Holds
  holds_grows s p sign t r h = (h.0, entries_in h.0 h.1, h.2, within_grows ps qs pairs_in s h.0.subject h.3)

  pub strong_plus_grows : (tables more : Tables) → Extends tables more → (s : ℕ) (p : Privilege) (t : ℕ) → StrongPlus ps tables es s p t → StrongPlus qs more fs s p t
  unfolding StrongPlus
  strong_plus_grows tables more keeps s p t (inl h) = inl (holds_grows s p Sign.Plus t Strength.Strong h)
  strong_plus_grows tables more keeps s p t (inr o) = inr ((o.0.0, keeps t o.0.0 o.0.1, o.0.2), (o.1.0, keeps t o.1.0 o.1.1, o.1.2))

  pub strong_minus_grows : (s : ℕ) (p : Privilege) (t : ℕ) → StrongMinus ps es s p t → StrongMinus qs fs s p t
  unfolding StrongMinus
  strong_minus_grows s p t h = holds_grows s p Sign.Minus t Strength.Strong h

-- equality of rights, pairs and entries
abbrev pub same_right : Right → Right → Bool
same_right a b = eqb (bit a) (bit b)

pub decides_same_right : (a b : Right) → Decides (same_right a b) (a ≡ b)
decides_same_right a b = grind (arith, nat_tests, bit_injective a b)

abbrev pub same_pair : Pair → Pair → Bool
same_pair a b = eqb a.member b.member && eqb a.group b.group

pub decides_same_pair : (a b : Pair) → Decides (same_pair a b) (a ≡ b)
decides_same_pair a b = grind (arith, nat_tests)

pub decides_entry_in : (e : Entry) (es : List Entry) → Decides (list_any (same_entry e) es) (In e es)
decides_entry_in = decides_in same_entry decides_same

pub decides_pair_in : (a : Pair) (ps : List Pair) → Decides (list_any (same_pair a) ps) (In a ps)
decides_pair_in = decides_in same_pair decides_same_pair

abbrev pub gives_test : Entry → Privilege → Sign → ℕ → Strength → Bool
gives_test e p sign t r = let same = same_right e.right (Right.Access p sign r) in eqb e.table t && same

pub decides_gives : (e : Entry) (p : Privilege) (sign : Sign) (t : ℕ) (r : Strength) → Decides (gives_test e p sign t r) (Gives e p sign t r)
decides_gives e p sign t r = Decides-and _ _ (Decides-eqb e.table t) (decides_same_right e.right (Right.Access p sign r))

-- some entry gives it, at a subject that passes the test
abbrev pub entry_test : (ℕ → Bool) → List Entry → Privilege → Sign → ℕ → Strength → Bool
entry_test f entries p sign t r = list_any (λ e. let there = f e.subject in gives_test e p sign t r && there) entries

pub decides_entry : (P : ℕ → Type 0) (f : ℕ → Bool) → ((s : ℕ) → Decides (f s) (P s)) → (entries : List Entry) (p : Privilege) (sign : Sign) (t : ℕ) (r : Strength) →
    Decides (entry_test f entries p sign t r) ((e : Entry) × In e entries × Gives e p sign t r × P e.subject)
decides_entry P f d entries p sign t r = Decides-like _ (λ h. (h.0, h.1, h.2.0, h.2.1)) (λ h. (h.0, h.1, (h.2, h.3)))
    (decides_some (λ e. Gives e p sign t r × P e.subject) (λ e. gives_test e p sign t r && f e.subject) entries
    (λ e _. Decides-and _ _ (decides_gives e p sign t r) (d e.subject)))

module _ (pairs : List Pair) (entries : List Entry) where
  abbrev pub holds_test : ℕ → Privilege → Sign → ℕ → Strength → Bool
  holds_test s p sign t r = entry_test (within_test pairs s) entries p sign t r

  pub decides_holds : (s : ℕ) (p : Privilege) (sign : Sign) (t : ℕ) (r : Strength) → Decides (holds_test s p sign t r) (Holds pairs entries s p sign t r)
  unfolding Holds
  decides_holds s p sign t r = decides_entry (Within pairs s) (within_test pairs s) (decides_within pairs s) entries p sign t r

  abbrev pub strong_minus_test : ℕ → Privilege → ℕ → Bool
  strong_minus_test s p t = holds_test s p Sign.Minus t Strength.Strong

  pub decides_strong_minus : (s : ℕ) (p : Privilege) (t : ℕ) → Decides (strong_minus_test s p t) (StrongMinus pairs entries s p t)
  unfolding StrongMinus
  decides_strong_minus s p t = decides_holds s p Sign.Minus t Strength.Strong

module _ (pairs : List Pair) (tables : Tables) (entries : List Entry) where
  abbrev pub strong_plus_test : ℕ → Privilege → ℕ → Bool
  strong_plus_test s p t = let owned = base_test tables t && owns_test tables s t in holds_test pairs entries s p Sign.Plus t Strength.Strong || owned

  pub decides_strong_plus : (s : ℕ) (p : Privilege) (t : ℕ) → Decides (strong_plus_test s p t) (StrongPlus pairs tables entries s p t)
  unfolding StrongPlus
  decides_strong_plus s p t = Decides-or _ _
      (decides_holds pairs entries s p Sign.Plus t Strength.Strong) (Decides-and _ _ (decides_base tables t) (decides_owns tables s t))

  abbrev pub weak_at_test : Privilege → Sign → ℕ → ℕ → Bool
  weak_at_test p sign t s = entry_test (λ x. eqb x s) entries p sign t Strength.Weak

  pub decides_weak_at : (p : Privilege) (sign : Sign) (t s : ℕ) → Decides (weak_at_test p sign t s) (WeakAt pairs tables entries p sign t s)
  unfolding WeakAt
  decides_weak_at p sign t s = decides_entry (λ x. x ≡ s) (λ x. eqb x s) (λ x. Decides-eqb x s) entries p sign t Strength.Weak
