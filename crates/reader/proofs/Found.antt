-- The first place of a byte, looked for in the first m bytes and then in the rest. Assumes nothing.
use Rattle.std.proofs.Common.{◌≡◌, ℕ, zero, suc, ◌+◌, ◌-◌, ◌<◌, Bool, true, false, Option, Some, None, List, [], ◌∷◌, length, get_or, take, drop, sym, refl, ap, ◌∙◌, subst, ⊎_elim, arith, length-take}
use Rattle.std.specs.Option.{is_some}
use Rattle.std.proofs.lemmas.Bool.{cases_lt, cases_eq, cases_Bool, cond-true, cond-false, false≢true}
use Rattle.std.proofs.lemmas.List.{get_or-take, get_or-drop, length-drop, take_all}
use Rattle.memchr.specs.Find.{Passes, Nowhere, IsFirst, IsFirstByte, TakesFirst, places, places_from}

module _ (test : ℕ → Bool) (bytes : List ℕ) (m : ℕ) (more : m < length bytes) where
  length_near : length (take m bytes) ≡ m
  length_near = length-take m bytes ∙ omega arith

  same_near : (j : ℕ) → j < m → test (get_or (take m bytes) j 0) ≡ test (get_or bytes j 0)
  same_near j within = ap test (get_or-take m bytes j 0 within)

  -- what is the first of the near ones is the first
  pub first_near : (o : Option ℕ) → true ≡ is_some o → IsFirstByte test (take m bytes) o → IsFirstByte test bytes o
  first_near None found told = absurd (cc)
  first_near (Some k) found told =
      let within : k < m = omega (arith, told.0.high, length_near) in (
        record { low = told.0.low; high = omega arith; before = λ j low below passes. told.0.before j low below (same_near j (omega arith) ∙ passes) },
        sym (same_near k within) ∙ told.1,
      )

  module _ (o : Option ℕ) (missed : false ≡ is_some o) (near : IsFirstByte test (take m bytes) o) where
    -- no byte is there where none was found
    nowhere : (o : Option ℕ) → false ≡ is_some o → IsFirstByte test (take m bytes) o → Nowhere (Passes test bytes) 0 m
    nowhere None missed told = λ j low within passes. told j low (omega (arith, length_near)) (same_near j within ∙ passes)
    nowhere (Some k) missed told = absurd (cc)

    none_past : (k : ℕ) → Nowhere (Passes test (drop m bytes)) 0 k → Nowhere (Passes test bytes) 0 (m + k)
    none_past k past j low below passes =
        ⊎_elim
        (λ within. nowhere o missed near j low within passes)
        (λ beyond.
        let there : m + (j - m) ≡ j = omega arith in
        past (j - m) (omega arith) (omega arith) (ap test (get_or-drop m bytes (j - m) 0 ∙ ap (λ i. get_or bytes i 0) there) ∙ passes))
        (cases_lt j m)

    far : take (length bytes - m) (drop m bytes) ≡ drop m bytes
    far = take_all (length bytes - m) (drop m bytes) (omega (arith, length-drop m bytes))

    pub none_at_all : IsFirstByte test (take (length bytes - m) (drop m bytes)) None → IsFirstByte test bytes None
    none_at_all told =
        let none = subst (λ bs. IsFirstByte test bs None) far told in
        subst (Nowhere (Passes test bytes) 0) (omega (arith, length-drop m bytes)) (none_past (length (drop m bytes)) none)

    pub first_past : {k : ℕ} → IsFirstByte test (take (length bytes - m) (drop m bytes)) (Some k) → IsFirstByte test bytes (Some (m + k))
    first_past {k} told =
        let found = subst (λ bs. IsFirstByte test bs (Some k)) far told in (
          record { low = omega arith; high = omega (arith, found.0.high, length-drop m bytes); before = none_past k found.0.before },
          ap test (sym (get_or-drop m bytes k 0)) ∙ found.1,
        )

module _ (test : ℕ → Bool) (bytes : List ℕ) where
  places_here : (i n : ℕ) → Passes test bytes i → places_from test bytes i (suc n) ≡ i ∷ places_from test bytes (i + 1) n
  unfolding places_from
  places_here i n right = cond-true _ _ _ right

  places_none : (i : ℕ) → places_from test bytes i 0 ≡ []
  unfolding places_from
  places_none i = refl

  places_skip : (i n : ℕ) → test (get_or bytes i 0) ≡ false → places_from test bytes i (suc n) ≡ places_from test bytes (i + 1) n
  unfolding places_from
  places_skip i n wrong = cond-false _ _ _ wrong

  here : (i n : ℕ) (r : Option ℕ) (more left : List ℕ) → Passes test bytes i → TakesFirst (i ∷ more) r left → IsFirst (Passes test bytes) i (i + suc n) r
  here i n None more left right took = absurd (cc (took.0))
  here i n (Some k) more left right took =
      let same : i ≡ k = cc in
      (record { low = omega arith; high = omega arith; before = λ j low high passes. omega arith }, subst (Passes test bytes) same right)

  later : (i n : ℕ) (r : Option ℕ) → test (get_or bytes i 0) ≡ false → IsFirst (Passes test bytes) (i + 1) (i + 1 + n) r → IsFirst (Passes test bytes) i (i + suc n) r
  later i n None wrong told = λ j low high passes. ⊎_elim
      (λ same. false≢true (sym wrong ∙ ap (λ k. test (get_or bytes k 0)) (sym same) ∙ passes))
      (λ other. told j (omega arith) (omega arith) passes)
      (cases_eq j i)
  later i n (Some k) wrong told = (
    record {
      low = omega (arith, told.0.low);
      high = omega (arith, told.0.high);
      before = λ j low high passes. ⊎_elim
          (λ same. false≢true (sym wrong ∙ ap (λ k. test (get_or bytes k 0)) (sym same) ∙ passes))
          (λ other. told.0.before j (omega arith) (omega arith) passes)
          (cases_eq j i);
    },
    told.1,
  )

  -- what is taken first of the places is the first of them
  first_place : (n i : ℕ) (r : Option ℕ) (left : List ℕ) → TakesFirst (places_from test bytes i n) r left → IsFirst (Passes test bytes) i (i + n) r
  first_place zero i None left took = λ j low high passes. omega arith
  first_place zero i (Some k) left took = let none : [] ≡ k ∷ left = sym (places_none i) ∙ took in absurd (cc)
  first_place (suc n) i r left took =
      ⊎_elim
      (λ right. here i n r _ left right (subst (λ ps. TakesFirst ps r left) (places_here i n right) took))
      (λ wrong. later i n r wrong (first_place n (i + 1) r left (subst (λ ps. TakesFirst ps r left) (places_skip i n wrong) took)))
      (cases_Bool (test (get_or bytes i 0)))

  pub first_of_all : (r : Option ℕ) (left : List ℕ) → TakesFirst (places test bytes) r left → IsFirstByte test bytes r
  first_of_all r left took =
      let all : 0 + (length bytes - 0) ≡ length bytes = omega arith in
      subst (λ n. IsFirst (Passes test bytes) 0 n r) all (first_place (length bytes - 0) 0 r left took)
