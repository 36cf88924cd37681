-- What a copy within a list leaves when a place is made for one element more, or closed after one less:
-- the whole list after, as its front and the rest.
use Rattle.std.proofs.Common.{◌≡◌, ℕ, ◌+◌, ◌-◌, ◌<◌, ◌≤◌, List, ◌++◌, length, take, drop, set, arith, rules}
use lib.Seq.{paste}
use Rattle.std.specs.List.{insert, remove}
use Rattle.std.proofs.lemmas.Bool.{cases_eq}
use Rattle.std.proofs.lemmas.List.{places, same_lists, get_or-set_same, take_at, drop_at}

module _ {X : Type 0} where
  -- the places from k on, n in all, moved up by one, and x put at k
  pub shifted_up : (k n : ℕ) (xs : List X) (x : X) → k ≤ n → n < length xs → set (paste xs (k + 1) (drop k xs) (n - k)) k x ≡ insert (take n xs) k x ++ drop (n + 1) xs
  shifted_up k n xs x le room = same_lists _ _ (search (rules, places)) (λ j d h. grind (arith, places, get_or-set_same, cases_eq j k))

  -- the places past k, of n in all, moved down by one
  pub shifted_down : (k n : ℕ) (xs : List X) → k < n → paste xs k (drop (k + 1) xs) (n - (k + 1)) ≡ remove (take n xs) k ++ drop (n - 1) xs
  shifted_down k n xs less = same_lists _ _ (search (rules, places)) (λ j d h. grind (arith, places))

  pub front_joined : (n : ℕ) (ys rest : List X) → length ys ≡ n → take n (ys ++ rest) ≡ ys
  front_joined n ys rest long = take_at ys rest n long

  pub past_joined : (n : ℕ) (ys rest : List X) → length ys ≡ n → drop n (ys ++ rest) ≡ rest
  past_joined n ys rest long = drop_at ys rest n long
