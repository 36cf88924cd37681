-- Which bytes are a number of at most three digits. Assumes nothing.
use Rattle.std.proofs.Common.{◌≡◌, ℕ, ◌+◌, ◌*◌, ◌^◌, ◌<◌, ◌≤◌, ◌⊎◌, List, [], ◌∷◌, length, get_or, Option, Some, None, MatchOption, decimal, ap, ◌∙◌, sym, subst, ⊎_elim, arith}
use Rattle.std.specs.Str.Parse.{AllDigits, digits_value}
use Rattle.std.specs.Int.{IsInRange}
use Rattle.std.proofs.lemmas.Fmt.{decimal_digit, length-decimal-le, decimal_nonempty, first_decimal, digits_decimal, decimal_injective, decimal-digits_value}
use Rattle.std.proofs.lemmas.Str.{digit_value_digit}
use Rattle.std.proofs.lemmas.Str.Parse.{IsNumeralModel, numerals_by_value, tells_digits, digit_at}
use Rattle.std.proofs.lemmas.Bool.{cases_lt}
use Rattle.reader.specs.Exactly.{Exactly}
use Rattle.reader.proofs.Spelled.{exactly_some, exactly_none}

own : IsNumeralModel (AllDigits 10) (digits_value 10)
own = numerals_by_value (AllDigits 10) tells_digits

-- n has at most three digits, and is written as bs
abbrev pub Reads : List ℕ → ℕ → Type 0
Reads bs n = (n ≤ 999) × (decimal n ≡ bs)

-- c is the digit d
abbrev pub Digit : ℕ → ℕ → Type 0
Digit c d = IsInRange 48 57 c × (d + 48 ≡ c)

module _ (bs : List ℕ) where
  pub unlike_length : (length bs ≡ 0) ⊎ (3 < length bs) → Exactly None (Reads bs)
  unlike_length wrong = exactly_none (Reads bs) (λ n h.
      let some = decimal_nonempty n (omega (arith, h.0)) in
      let short = length-decimal-le 3 n (omega arith) (omega (arith, h.0)) (omega (arith, h.0)) in
      let long = ap length h.1 in
      ⊎_elim (λ none. omega arith) (λ more. omega arith) wrong)

  pub unlike_zero : get_or bs 0 0 ≡ 48 → 1 < length bs → Exactly None (Reads bs)
  unlike_zero first long = exactly_none (Reads bs) (λ n h.
      let small : n < 2 ^ 64 = omega (arith, h.0) in
      ⊎_elim
      (λ more. omega (arith, first_decimal n more small, ap (λ ds. get_or ds 0 0) h.1))
      (λ none. let e = decimal_digit n (omega arith) in omega (arith, ap length e, ap length h.1))
      (cases_lt 0 n))

  pub unlike_digit : (i : ℕ) → i < length bs → (IsInRange 48 57 (get_or bs i 0) → ⊥) → Exactly None (Reads bs)
  unlike_digit i within wrong = exactly_none (Reads bs) (λ n h.
      let digits : AllDigits 10 bs = subst (AllDigits 10) h.1 (digits_decimal own n (omega (arith, h.0))) in
      wrong (digit_at bs i digits within))

  reads_value : (v : ℕ) → digits_value 10 bs ≡ v → AllDigits 10 bs → 0 < length bs → v ≤ 999 → (get_or bs 0 0 ≡ 48 → length bs ≡ 1) → Exactly (Some v) (Reads bs)
  reads_value v is digits some small first =
      let written : decimal v ≡ bs = ap decimal (sym is) ∙ decimal-digits_value own bs digits some first (omega arith) in
      exactly_some (Reads bs) v (small, written) (λ n h. decimal_injective v n (omega arith) (omega (arith, h.0)) (written ∙ sym h.1))

pub reads_one : (bs : List ℕ) (o : Option ℕ) → length bs ≡ 1 → MatchOption o (IsInRange 48 57 (get_or bs 0 0) → ⊥) (Digit (get_or bs 0 0)) → Exactly o (Reads bs)
reads_one [] o one told = absurd (omega arith)
reads_one (x ∷ []) None one told = unlike_digit (x ∷ []) 0 (omega arith) told
reads_one (x ∷ []) (Some a) one told =
    let is = digit_value_digit x told.0 in
    reads_value (x ∷ []) a (omega (arith, is, told.1)) (omega (arith, is, told.0), tt) (omega arith) (omega (arith, told.0, told.1)) (λ zero. omega arith)
reads_one (x ∷ y ∷ bs) o one told = absurd (omega arith)

pub reads_two : (bs : List ℕ) (a b : ℕ) → length bs ≡ 2 → (get_or bs 0 0 ≡ 48 → ⊥) → Digit (get_or bs 0 0) a → Digit (get_or bs 1 0) b → Exactly (Some (10 * a + b)) (Reads bs)
reads_two [] a b two first d e = absurd (omega arith)
reads_two (x ∷ []) a b two first d e = absurd (omega arith)
reads_two (x ∷ y ∷ []) a b two first d e =
    let is = digit_value_digit x d.0 in
    let next = digit_value_digit y e.0 in
    reads_value (x ∷ y ∷ []) (10 * a + b) (omega (arith, is, next, d.1, e.1)) (omega (arith, is, d.0), (omega (arith, next, e.0), tt)) (omega arith) (omega (arith, d.0, d.1, e.0, e.1)) (λ zero. absurd (first zero))
reads_two (x ∷ y ∷ z ∷ bs) a b two first d e = absurd (omega arith)

pub reads_three : (bs : List ℕ) (a b c : ℕ) → length bs ≡ 3 → (get_or bs 0 0 ≡ 48 → ⊥) → Digit (get_or bs 0 0) a → Digit (get_or bs 1 0) b → Digit (get_or bs 2 0) c → Exactly (Some (100 * a + 10 * b + c)) (Reads bs)
reads_three [] a b c three first d e f = absurd (omega arith)
reads_three (x ∷ []) a b c three first d e f = absurd (omega arith)
reads_three (x ∷ y ∷ []) a b c three first d e f = absurd (omega arith)
reads_three (x ∷ y ∷ z ∷ []) a b c three first d e f =
    let is = digit_value_digit x d.0 in
    let next = digit_value_digit y e.0 in
    let last = digit_value_digit z f.0 in
    reads_value (x ∷ y ∷ z ∷ []) (100 * a + 10 * b + c) (omega (arith, is, next, last, d.1, e.1, f.1)) (omega (arith, is, d.0), (omega (arith, next, e.0), (omega (arith, last, f.0), tt))) (omega arith) (omega (arith, d.0, d.1, e.0, e.1, f.0, f.1)) (λ zero. absurd (first zero))
reads_three (x ∷ y ∷ z ∷ w ∷ bs) a b c three first d e f = absurd (omega arith)

-- each byte of a number is a digit
pub figure_at : (n i : ℕ) → n ≤ 999 → i < length (decimal n) → IsInRange 48 57 (get_or (decimal n) i 0)
figure_at n i small within = digit_at (decimal n) i (digits_decimal own n (omega arith)) within
