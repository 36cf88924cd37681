-- One text after another in a buffer. Assumes nothing.
use Rattle.std.proofs.Common.{◌≡◌, ℕ, ◌+◌, ◌≤◌, List, ◌++◌, length, take, drop, sym, refl, ap, ◌∙◌, subst, arith}
use borrow.Rule.Slice.PartMut.{put_mid}
use Rattle.std.proofs.lemmas.List.{append_assoc, length-append, take-append-drop, length-drop, length-take-le, take_at, drop_at, drop-drop}
use Rattle.reader.specs.Answers.{placed, Put}

-- what a copy to a part leaves
pub put_part : (at k : ℕ) (bytes part text : List ℕ) → part ≡ text → k ≡ length text → Put at text bytes (at + length text) (put_mid at k bytes part)
unfolding placed
put_part at k bytes part text same long = record {
  bytes = (λ i. take at bytes ++ (same i ++ drop (long i) (drop at bytes))) ∙ ap (λ r. take at bytes ++ (text ++ r)) (drop-drop (length text) at bytes);
  past = refl;
}

module _ (at : ℕ) (bytes : List ℕ) where
  length_placed : (text : List ℕ) → at + length text ≤ length bytes → length (placed at text bytes) ≡ length bytes
  unfolding placed
  length_placed text fits =
      length-append (take at bytes) _ ∙ omega (arith, length-take-le at bytes (omega arith), length-append text (drop (at + length text) bytes), length-drop (at + length text) bytes)

  placed_more : (xs ys : List ℕ) → at + length xs + length ys ≤ length bytes → placed (at + length xs) ys (placed at xs bytes) ≡ placed at (xs ++ ys) bytes
  unfolding placed
  placed_more xs ys fits =
      (λ i. front i ++ (ys ++ back i)) ∙ append_assoc (take at bytes) xs (ys ++ drop (at + length xs + length ys) bytes) ∙ ap (λ r. take at bytes ++ r) (sym (append_assoc xs ys _)) ∙ ap (λ n. take at bytes ++ (xs ++ ys ++ drop n bytes)) (omega (arith, length-append xs ys))
    where
      long : length (take at bytes ++ xs) ≡ at + length xs
      long = length-append (take at bytes) xs ∙ omega (arith, length-take-le at bytes (omega arith))

      whole : take at bytes ++ (xs ++ drop (at + length xs) bytes) ≡ (take at bytes ++ xs) ++ drop (at + length xs) bytes
      whole = sym (append_assoc (take at bytes) xs (drop (at + length xs) bytes))

      front : take (at + length xs) (take at bytes ++ (xs ++ drop (at + length xs) bytes)) ≡ take at bytes ++ xs
      front = ap (take (at + length xs)) whole ∙ take_at (take at bytes ++ xs) (drop (at + length xs) bytes) (at + length xs) long

      back : drop (at + length xs + length ys) (take at bytes ++ (xs ++ drop (at + length xs) bytes)) ≡ drop (at + length xs + length ys) bytes
      back =
          sym (drop-drop (length ys) (at + length xs) _) ∙ ap (λ r. drop (length ys) (drop (at + length xs) r)) whole ∙ ap (drop (length ys)) (drop_at (take at bytes ++ xs) (drop (at + length xs) bytes) (at + length xs) long) ∙ drop-drop (length ys) (at + length xs) bytes

pub put_same : {at : ℕ} {text text' before : List ℕ} {end : ℕ} {after : List ℕ} → text ≡ text' → Put at text before end after → Put at text' before end after
put_same {at} {before = before} {end} {after} same put = subst (λ text. Put at text before end after) same put

-- one text after another is both
pub put_more : {at : ℕ} {xs ys before : List ℕ} {mid : ℕ} {between : List ℕ} {end : ℕ} {after : List ℕ} → Put at xs before mid between → Put mid ys between end after → at + length xs + length ys ≤ length before → Put at (xs ++ ys) before end after
put_more {at} {xs} {ys} {before} first next fits = record {
  bytes = next.bytes ∙ (λ i. placed (first.past i) ys (first.bytes i)) ∙ placed_more at before xs ys fits;
  past = omega (arith, next.past, first.past, length-append xs ys);
}

pub put_length : {at : ℕ} {text before : List ℕ} {end : ℕ} {after : List ℕ} → Put at text before end after → at + length text ≤ length before → length after ≡ length before
put_length {at} {text} {before} put fits = ap length put.bytes ∙ length_placed at before text fits

-- a text from the front on stands before what the buffer held
pub put_front : {text before : List ℕ} {end : ℕ} {after : List ℕ} → Put 0 text before end after → (end ≡ length text) × (after ≡ text ++ drop end before)
unfolding placed
put_front {text} {before} {end} put =
    let all : end ≡ length text = omega (arith, put.past) in
    (all, put.bytes ∙ ap (λ n. text ++ drop n before) (sym put.past))

-- what stands in a buffer up to and from a place is the buffer
pub put_at : {at end : ℕ} {text before after : List ℕ} (start : ℕ) → start + length text ≡ end → at + length text ≡ end → drop start after ≡ text ++ drop end before → take start after ≡ take start before → Put at text before end after
unfolding placed
put_at {at} {end} {text} {before} {after} start from to back front =
    let same : start ≡ at = omega arith in
    record {
      bytes = sym (take-append-drop start after) ∙ (λ i. front i ++ back i) ∙ (λ i. take (same i) before ++ (text ++ drop (sym to i) before));
      past = sym to;
    }
