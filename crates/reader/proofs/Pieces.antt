-- The laws of lines and of parts: what one byte 10, or one space, cuts off. Assumes nothing.
use Rattle.std.proofs.Common.{◌≡◌, ℕ, ◌+◌, ◌-◌, ◌<◌, ◌≤◌, eqb, Option, Some, None, unwrap_or, min, List, [], ◌∷◌, ◌++◌, length, take, drop, sym, refl, ap, ◌∙◌, ⊎_elim, arith}
use Rattle.std.specs.Bool.{then_some}
use Rattle.std.specs.List.{between}
use Rattle.std.proofs.lemmas.List.Edits.{length-between}
use Rattle.std.proofs.lemmas.List.{append-nil, take-append-drop, drop-drop, drop_more, drop_all, length-drop, take-take}
use Rattle.std.proofs.lemmas.Slice.{between_is}
use Rattle.std.proofs.lemmas.Bool.{ne_eqb, lt-ltb, le-ltb, cond-false, cases_lt}
use Rattle.reader.specs.Lines.{Without, onto, lines, parts}
use Rattle.reader.specs.Reading.{Stands, Cut, parts_from}

pub lines_none : lines [] ≡ []
unfolding lines
lines_none = refl

pub lines_ended : (l bs : List ℕ) → Without 10 l → lines (l ++ 10 ∷ bs) ≡ l ∷ lines bs
unfolding lines
lines_ended [] bs w = refl
lines_ended (b ∷ l) bs w = cond-false (eqb b 10) _ _ (ne_eqb b 10 w.0) ∙ ap (onto b) (lines_ended l bs w.1)

pub lines_last : (b : ℕ) (l : List ℕ) → Without 10 (b ∷ l) → lines (b ∷ l) ≡ (b ∷ l) ∷ []
unfolding lines
lines_last b [] w = cond-false (eqb b 10) _ _ (ne_eqb b 10 w.0)
lines_last b (c ∷ l) w = cond-false (eqb b 10) _ _ (ne_eqb b 10 w.0) ∙ ap (onto b) (lines_last c l w.1)

pub parts_spaced : (l bs : List ℕ) → Without 32 l → parts (l ++ 32 ∷ bs) ≡ l ∷ parts bs
unfolding parts
parts_spaced [] bs w = refl
parts_spaced (b ∷ l) bs w = cond-false (eqb b 32) _ _ (ne_eqb b 32 w.0) ∙ ap (onto b) (parts_spaced l bs w.1)

pub parts_last : (l : List ℕ) → Without 32 l → parts l ≡ l ∷ []
unfolding parts
parts_last [] w = refl
parts_last (b ∷ l) w = cond-false (eqb b 32) _ _ (ne_eqb b 32 w.0) ∙ ap (onto b) (parts_last l w.1)

module _ {stop : ℕ} {bytes : List ℕ} {i j : ℕ} {next : Option ℕ} (cut : Cut stop bytes i j next) where
  cut_long : length (between i j bytes) ≡ j - i
  cut_long = length-between bytes i j cut.within.1

  pub cut_ends : i + length (between i j bytes) ≡ j
  cut_ends = omega (arith, cut_long, cut.within)

  pub cut_stands : Stands bytes i (between i j bytes)
  cut_stands = (ap (λ n. take n (drop i bytes)) cut_long, omega (arith, cut_long, cut.within))

  cut_split : drop i bytes ≡ between i j bytes ++ drop j bytes
  cut_split =
      sym (take-append-drop (j - i) (drop i bytes)) ∙ ap (λ r. between i j bytes ++ r) (drop-drop (j - i) i bytes ∙ ap (λ n. drop n bytes) (omega (arith, cut.within)))

  cut_stop : j < length bytes → drop i bytes ≡ between i j bytes ++ stop ∷ drop (j + 1) bytes
  cut_stop h = cut_split ∙ ap (λ r. between i j bytes ++ r) (drop_more bytes j 0 h ∙ ap (λ b. b ∷ drop (j + 1) bytes) (cut.stops h))

  cut_end : length bytes ≤ j → drop i bytes ≡ between i j bytes
  cut_end h = cut_split ∙ ap (λ r. between i j bytes ++ r) (drop_all j bytes h) ∙ append-nil (between i j bytes)

  cut_more : j < length bytes → next ≡ Some (j + 1)
  cut_more h = cut.past ∙ ap (λ b. then_some b (j + 1)) (lt-ltb j (length bytes) h)

  cut_last : length bytes ≤ j → next ≡ None
  cut_last h = cut.past ∙ ap (λ b. then_some b (j + 1)) (le-ltb j (length bytes) h)

  pub cut_past : unwrap_or next j ≡ min (length bytes) (i + length (between i j bytes) + 1)
  cut_past = ⊎_elim (λ h. omega (arith, cut_ends, ap (λ o. unwrap_or o j) (cut_more h))) (λ h. omega (arith, cut_ends, cut.within, ap (λ o. unwrap_or o j) (cut_last h))) (cases_lt j (length bytes))

-- what stands in a part of some bytes stands in these, as much further on as the part does
pub stands_within : (bytes line part : List ℕ) (at i : ℕ) → Stands bytes at line → Stands line i part → Stands bytes (at + i) part
stands_within bytes line part at i outer inner =
    (there ∙ inner.0, omega (arith, outer.1, inner.1))
  where
    long : length line - i ≡ length (drop i line)
    long = sym (length-drop i line)

    there : take (length part) (drop (at + i) bytes) ≡ take (length part) (drop i line)
    there =
        ap (take (length part)) (sym (drop-drop i at bytes)) ∙ sym (take-take (length part) (length line - i) (drop i (drop at bytes)) (omega (arith, inner.1))) ∙ ap (take (length part)) (between_is (drop at bytes) i (length line) ∙ ap (drop i) outer.0)

-- what is left of a sheet where the next line ends at j
pub cut_line : {bytes : List ℕ} {i j : ℕ} {next : Option ℕ} → Cut 10 bytes i j next → i < length bytes → lines (drop i bytes) ≡ between i j bytes ∷ lines (drop (unwrap_or next j) bytes)
cut_line {bytes} {i} {j} {next} cut some = ⊎_elim within ended (cases_lt j (length bytes))
  where
    within : j < length bytes → lines (drop i bytes) ≡ between i j bytes ∷ lines (drop (unwrap_or next j) bytes)
    within h =
        ap lines (cut_stop cut h) ∙ lines_ended (between i j bytes) (drop (j + 1) bytes) cut.without ∙ ap (λ o. between i j bytes ∷ lines (drop (unwrap_or o j) bytes)) (sym (cut_more cut h))

    last : (l : List ℕ) → Without 10 l → 0 < length l → lines l ≡ l ∷ []
    last [] w h = absurd (omega arith)
    last (b ∷ l) w h = lines_last b l w

    ended : length bytes ≤ j → lines (drop i bytes) ≡ between i j bytes ∷ lines (drop (unwrap_or next j) bytes)
    ended h =
        let none : lines (drop (unwrap_or next j) bytes) ≡ [] = ap (λ o. lines (drop (unwrap_or o j) bytes)) (cut_last cut h) ∙ ap lines (drop_all j bytes h) ∙ lines_none in
        ap lines (cut_end cut h) ∙ last (between i j bytes) cut.without (omega (arith, cut_long cut)) ∙ ap (λ ls. between i j bytes ∷ ls) (sym none)

-- what is left of a line where the next part ends at j
pub cut_part : {line : List ℕ} {i j : ℕ} {next : Option ℕ} → Cut 32 line i j next → parts (drop i line) ≡ between i j line ∷ parts_from line next
cut_part {line} {i} {j} {next} cut = ⊎_elim within ended (cases_lt j (length line))
  where
    within : j < length line → parts (drop i line) ≡ between i j line ∷ parts_from line next
    within h =
        ap parts (cut_stop cut h) ∙ parts_spaced (between i j line) (drop (j + 1) line) cut.without ∙ ap (λ o. between i j line ∷ parts_from line o) (sym (cut_more cut h))

    ended : length line ≤ j → parts (drop i line) ≡ between i j line ∷ parts_from line next
    ended h =
        ap parts (cut_end cut h) ∙ parts_last (between i j line) cut.without ∙ ap (λ o. between i j line ∷ parts_from line o) (sym (cut_last cut h))

-- what a cut says of the line or the part before it, and of what is left
pub ruleset pieces = (lines_none, cut_line, cut_part, cut_ends, cut_stands, cut_past, stands_within)
