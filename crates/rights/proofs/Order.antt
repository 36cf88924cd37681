-- Laws of the order of entries: its test decides it, it is strict and total, and same_entry decides equality.
use Rattle.std.proofs.Common.{◌≡◌, ℕ, Bool, true, ◌⊎◌, List, [], ◌∷◌, Decides, inl, inr, ⊎_elim, arith}
use Rattle.std.specs.List.{AllByRecursion}
use Rattle.std.proofs.lemmas.Bool.{cases_order}
use Rattle.std.proofs.lemmas.Bool.Decides.{nat_tests, Decides-and, Decides-like}
use Rattle.rights.specs.declared.entries.Entry.{Entry}
use Rattle.rights.specs.Bits.{bit}
use Rattle.rights.specs.Entries.{Then, Before, Proper, RisingEntries, then_test, before, same_entry, proper, sound}
use Rattle.rights.proofs.Bits.{bit_injective}
use Rattle.rights.proofs.Deciding.{decides_all, decided_yes}

pub decides_then : (a b : ℕ) {R : Type 0} (r : Bool) → Decides r R → Decides (then_test a b r) (Then a b R)
decides_then a b r h = grind (arith, nat_tests)

pub decides_before : (e f : Entry) → Decides (before e f) (Before e f)
unfolding before Before
decides_before e f = grind (arith, nat_tests)

pub decides_same : (e f : Entry) → Decides (same_entry e f) (e ≡ f)
unfolding same_entry
decides_same e f = grind (arith, nat_tests, bit_injective e.right f.right)

entry_parts : (e f : Entry) → e.subject ≡ f.subject → e.table ≡ f.table → e.grantor ≡ f.grantor → bit e.right ≡ bit f.right → e ≡ f
entry_parts e f s t x b =
    λ i. record { subject = s i; table = t i; grantor = x i; right = bit_injective e.right f.right b i }

-- an order with a rest is transitive and total where the rest is
pub then_transitive : (a b c : ℕ) {R S Q : Type 0} → (R → S → Q) → Then a b R → Then b c S → Then a c Q
then_transitive a b c more h k = grind (arith, nat_tests)

pub then_total : (a b : ℕ) {E R S : Type 0} → (E ⊎ (R ⊎ S)) → ((a ≡ b) × E) ⊎ (Then a b R ⊎ Then b a S)
then_total a b rest = grind (arith, nat_tests)

pub before_irreflexive : (e : Entry) → Before e e → ⊥
unfolding Before
before_irreflexive e h = grind (arith, nat_tests)

pub before_transitive : (e f g : Entry) → Before e f → Before f g → Before e g
unfolding Before
before_transitive e f g h k = grind (arith, nat_tests)

pub before_total : (e f : Entry) → (e ≡ f) ⊎ (Before e f ⊎ Before f e)
unfolding Before
before_total e f =
    ⊎_elim (λ h. inl (entry_parts e f h.0 h.1.0 h.1.1.0 h.1.1.1)) inr
    (then_total _ _ (then_total _ _ (then_total _ _ (cases_order (bit e.right) (bit f.right)))))

-- ---- the test of a rising list of proper entries

decides_proper : (e : Entry) → Decides (proper e) (Proper e)
decides_proper e = grind (arith, nat_tests)

decides_sound : (es : List Entry) → Decides (sound es) (RisingEntries es × AllByRecursion Proper es)
unfolding sound
decides_sound [] = decided_yes (tt, tt)
decides_sound (e ∷ es) =
    Decides-like _ (λ h. ((h.0.1, h.1.0), (h.0.0, h.1.1))) (λ h. ((h.1.0, h.0.0), (h.0.1, h.1.1)))
    (Decides-and _ _ (Decides-and _ _ (decides_proper e) (decides_all (Before e) (before e) es (λ f _. decides_before e f))) (decides_sound es))

pub sound_rises : (es : List Entry) → sound es ≡ true → RisingEntries es
sound_rises es h = ((decides_sound es).0 h).0

pub sound_proper : (es : List Entry) → sound es ≡ true → AllByRecursion Proper es
sound_proper es h = ((decides_sound es).0 h).1

pub sound_from : (es : List Entry) → RisingEntries es → AllByRecursion Proper es → sound es ≡ true
sound_from es up all = (decides_sound es).1 (up, all)
