-- Tests and what they decide: either way of a property, that some or every element of a list has it,
-- and which elements a filter keeps.
-- In the tests of the rules a part that an earlier part may settle is bound by `let`, so that it is computed only where it is needed.
use Rattle.std.proofs.Common.{◌≡◌, ℕ, zero, suc, ◌<◌, ◌≤◌, Bool, true, false, leb, ◌&&◌, ◌||◌, ◌⊎◌, List, [], ◌∷◌, Some, None, Decides, Option, sym, refl, ap, ◌∙◌, subst, inl, inr, ⊎_elim, arith}
use Rattle.std.specs.List.{AllByRecursion, filter, list_any, list_all}
use Rattle.std.specs.Option.{is_some, unwrap_or, option_map}
use Rattle.std.proofs.lemmas.Bool.{false≢true, both_ways, cond_both}
use Rattle.std.proofs.lemmas.Bool.Decides.{Decides-and, Decides-or, Decides-like, Decides-below_or, not_from_Decides, nat_tests}
use Rattle.std.proofs.lemmas.Option.{none-some, same_Some}
use Rattle.rights.specs.Lists.{In}

abbrev pub OrNot : Type 0 → Type 0
OrNot P = P ⊎ (P → ⊥)

pub decided_yes : {P : Type 0} → P → Decides true P
decided_yes p = (λ _. p, λ _. refl)

pub decided_no : {P : Type 0} → (P → ⊥) → Decides false P
decided_no n = (λ e. absurd (false≢true e), λ p. absurd (n p))

-- what is decided holds or does not
pub either_way : {P : Type 0} (r : Bool) → Decides r P → OrNot P
either_way true d = inl (d.0 refl)
either_way false d = inr (not_from_Decides false d refl)

-- so it holds where it cannot fail
pub stable : {P : Type 0} (r : Bool) → Decides r P → ((P → ⊥) → ⊥) → P
stable r d n = ⊎_elim (λ p. p) (λ q. absurd (n q)) (either_way r d)

pub decides_leb : (a b : ℕ) → Decides (leb a b) (a ≤ b)
decides_leb a b = grind (arith, nat_tests)

pub decides_and_3 : {P Q R : Type 0} (x y z : Bool) → Decides x P → Decides y Q → Decides z R → Decides (x && (y && z)) (P × Q × R)
decides_and_3 x y z a b c = Decides-like _ (λ h. (h.0, h.1.0, h.1.1)) (λ h. (h.0, (h.1, h.2))) (Decides-and x (y && z) a (Decides-and y z b c))

pub decides_and_4 : {P Q R S : Type 0} (x y z w : Bool) → Decides x P → Decides y Q → Decides z R → Decides w S → Decides (x && (y && (z && w))) (P × Q × R × S)
decides_and_4 x y z w a b c d = Decides-like _ (λ h. (h.0, h.1.0, h.1.1, h.1.2)) (λ h. (h.0, (h.1, h.2, h.3))) (Decides-and x (y && (z && w)) a (decides_and_3 y z w b c d))

-- something stands there, or something that passes the test
pub decides_is_some : {X : Type 0} (o : Option X) → Decides (is_some o) ((x : X) × (o ≡ Some x))
decides_is_some None = decided_no (λ h. none-some h.0 h.1)
decides_is_some (Some x) = decided_yes (x, refl)

abbrev pub passes : {X : Type 0} → (X → Bool) → Option X → Bool
passes f o = unwrap_or (option_map f o) false

pub decides_passes : {X : Type 0} (P : X → Type 0) (f : X → Bool) (o : Option X) → ((x : X) → o ≡ Some x → Decides (f x) (P x)) → Decides (passes f o) ((x : X) × (o ≡ Some x) × P x)
decides_passes P f None d = decided_no (λ h. none-some h.0 h.1)
decides_passes P f (Some x) d = Decides-like (f x) (λ p. (x, refl, p)) (λ h. subst P (sym (same_Some x h.0 h.1)) h.2) (d x refl)

-- some number below n passes the test
abbrev pub some_below : (ℕ → Bool) → ℕ → Bool
some_below f zero = false
some_below f (suc n) = f n || some_below f n

pub decides_below : (P : ℕ → Type 0) (f : ℕ → Bool) → ((k : ℕ) → Decides (f k) (P k)) → (n : ℕ) → Decides (some_below f n) ((k : ℕ) × (k < n) × P k)
decides_below P f d = Decides-below_or f P (some_below f) d refl (λ _. refl)

module _ {X : Type 0} where
  -- some element has the property
  abbrev pub SomeIn : (X → Type 0) → List X → Type 0
  SomeIn P xs = (x : X) × In x xs × P x

  -- every element has it
  abbrev pub EachIn : (X → Type 0) → List X → Type 0
  EachIn P xs = (x : X) → In x xs → P x

  module _ (P : X → Type 0) where
    pub all_in : (xs : List X) → AllByRecursion P xs → EachIn P xs
    all_in [] a x i = absurd i
    all_in (y ∷ ys) a x i = ⊎_elim (λ e. subst P (sym e) a.0) (all_in ys a.1 x) i

    pub in_all : (xs : List X) → EachIn P xs → AllByRecursion P xs
    in_all [] f = tt
    in_all (y ∷ ys) f = (f y (inl refl), in_all ys (λ x i. f x (inr i)))

  module _ (P : X → Type 0) (f : X → Bool) where
    pub decides_some : (xs : List X) → EachIn (λ x. Decides (f x) (P x)) xs → Decides (list_any f xs) (SomeIn P xs)
    decides_some [] d = decided_no (λ h. h.1)
    decides_some (x ∷ xs) d = Decides-like _ found sought (Decides-or (f x) (list_any f xs) (d x (inl refl)) (decides_some xs (λ y i. d y (inr i))))
      where
        found : P x ⊎ SomeIn P xs → SomeIn P (x ∷ xs)
        found (inl p) = (x, inl refl, p)
        found (inr h) = (h.0, inr h.1, h.2)

        sought : SomeIn P (x ∷ xs) → P x ⊎ SomeIn P xs
        sought h = ⊎_elim (λ e. inl (subst P e h.2)) (λ i. inr (h.0, i, h.2)) h.1

    pub decides_all : (xs : List X) → EachIn (λ x. Decides (f x) (P x)) xs → Decides (list_all f xs) (AllByRecursion P xs)
    decides_all [] d = decided_yes tt
    decides_all (x ∷ xs) d = Decides-and (f x) (list_all f xs) (d x (inl refl)) (decides_all xs (λ y i. d y (inr i)))

    pub decides_each : (xs : List X) → EachIn (λ x. Decides (f x) (P x)) xs → Decides (list_all f xs) (EachIn P xs)
    decides_each xs d = Decides-like _ (all_in P xs) (in_all P xs) (decides_all xs d)

  -- an element stands among those that pass exactly if it stands in the list and passes
  module _ (f : X → Bool) where
    pub in_filter : (xs : List X) (y : X) → In y xs → f y ≡ true → In y (filter f xs)
    in_filter [] y i t = i
    in_filter (x ∷ xs) y i t = cond_both (f x) (x ∷ filter f xs) (filter f xs) (In y)
        (λ e. ⊎_elim inl (λ j. inr (in_filter xs y j t)) i)
        (λ e. ⊎_elim (λ same. absurd (both_ways (f x) e (ap f (sym same) ∙ t))) (λ j. in_filter xs y j t) i)

    pub filter_in : (xs : List X) (y : X) → In y (filter f xs) → In y xs × (f y ≡ true)
    filter_in [] y i = absurd i
    filter_in (x ∷ xs) y i = cond_both (f x) (x ∷ filter f xs) (filter f xs) (λ l. In y l → In y (x ∷ xs) × (f y ≡ true))
        (λ e. ⊎_elim (λ same. (inl same, ap f same ∙ e)) (λ j. later (filter_in xs y j))) (λ e j. later (filter_in xs y j)) i
      where
        later : In y xs × (f y ≡ true) → In y (x ∷ xs) × (f y ≡ true)
        later h = (inr h.0, h.1)

-- membership, where equality is decided
pub decides_in : {X : Type 0} (same : X → X → Bool) → ((x y : X) → Decides (same x y) (x ≡ y)) → (x : X) (xs : List X) → Decides (list_any (same x) xs) (In x xs)
decides_in same d x [] = decided_no (λ i. i)
decides_in same d x (y ∷ ys) = Decides-or (same x y) (list_any (same x) ys) (d x y) (decides_in same d x ys)
