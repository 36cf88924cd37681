-- What the front of a list holds after an insertion, a removal or a write, and after one change upon another.
use Rattle.std.proofs.Common.{◌≡◌, ℕ, zero, suc, ◌+◌, ◌-◌, ◌<◌, ◌≤◌, List, [], ◌∷◌, ◌++◌, length, take, drop, set, sym, refl, ap, ◌∙◌, subst, arith}
use lib.Seq.{paste}
use Rattle.std.specs.List.{insert, remove}
use Rattle.std.proofs.lemmas.List.Edits.{length-insert, length-remove}
use Rattle.std.proofs.lemmas.List.{length-append, length-set, length-take-le, length-drop, take-append-drop}
use Rattle.rights.proofs.Shifts.{shifted_up, shifted_down, front_joined, past_joined}
use Rattle.rising.specs.declared.fronts.Front.{Front}
use Rattle.rising.specs.Fronts.{stored, whole, Refilled}

module _ {X : Type 0} where
  -- as many places are used as stand
  pub stored_long : (s : Front X) → length (stored s) ≡ s.used
  stored_long s = length-take-le s.used s.list.now s.inside

  -- no more stands than there are places
  pub stored_fits : (s : Front X) → length (stored s) ≤ length (whole s)
  stored_fits s = let h = stored_long s in let k = s.inside in omega arith

  written : (k n : ℕ) (xs : List X) (x : X) → k < n → set xs k x ≡ set (take n xs) k x ++ drop n xs
  written k zero xs x less = absurd (omega arith)
  written k (suc n) [] x less = refl
  written zero (suc n) (y ∷ ys) x less = ap (λ l. x ∷ l) (sym (take-append-drop n ys))
  written (suc k) (suc n) (y ∷ ys) x less = ap (λ l. y ∷ l) (written k n ys x (omega arith))

  -- a front whose list is ys and then the rest as it was
  refilled : (s after : Front X) (ys : List X) → after.list.now ≡ ys ++ drop after.used s.list.now → length ys ≡ after.used → after.used ≤ length s.list.now → Refilled s ys after
  refilled s after ys is size room =
      let long = ap length is ∙ length-append ys (drop after.used s.list.now) in
      let rest = length-drop after.used s.list.now in
      record {
        holds = ap (take after.used) is ∙ front_joined after.used ys _ size;
        long = omega arith;
        rest = ap (drop after.used) is ∙ past_joined after.used ys _ size;
      }

module _ {X : Type 0} (s after : Front X) (k : ℕ) where
  pub insert_refills : (x : X) → s.used < length s.list.now → k ≤ s.used → after.used ≡ s.used + 1 → after.list.now ≡ set (paste s.list.now (k + 1) (drop k s.list.now) (s.used - k)) k x → Refilled s (insert (stored s) k x) after
  insert_refills x room place more is =
      let size = stored_long s in
      let longer = length-insert (stored s) k x (omega arith) in
      refilled s after _ (is ∙ shifted_up k s.used s.list.now x place room ∙ ap (λ n. insert (stored s) k x ++ drop n s.list.now) (sym more)) (omega arith) (omega arith)

  pub remove_refills : k < s.used → after.used ≡ s.used - 1 → after.list.now ≡ paste s.list.now k (drop (k + 1) s.list.now) (s.used - (k + 1)) → Refilled s (remove (stored s) k) after
  remove_refills place less is =
      let size = stored_long s in
      let inside = s.inside in
      let shorter = length-remove (stored s) k (omega arith) in
      refilled s after _ (is ∙ shifted_down k s.used s.list.now place ∙ ap (λ n. remove (stored s) k ++ drop n s.list.now) (sym less)) (omega arith) (omega arith)

  pub write_refills : (x : X) → k < s.used → after.used ≡ s.used → after.list.now ≡ set s.list.now k x → Refilled s (set (stored s) k x) after
  write_refills x place same is =
      let size = length-set (stored s) k x ∙ stored_long s in
      let inside = s.inside in
      refilled s after _ (is ∙ written k s.used s.list.now x place ∙ ap (λ n. set (stored s) k x ++ drop n s.list.now) (sym same)) (omega arith) (omega arith)

module _ {X : Type 0} where
  -- the places before i, in a list that goes on otherwise from there
  pub front_first : (i : ℕ) (xs ys : List X) → i ≤ length xs → take i (take i xs ++ ys) ≡ take i xs
  front_first i xs ys h = front_joined i (take i xs) ys (length-take-le i xs h)

  pub size_after : (s after : Front X) (xs : List X) → Refilled s xs after → after.used ≡ length xs
  size_after s after xs to = sym (stored_long after) ∙ ap length to.holds

  -- two changes, the second of which leaves as many places
  pub refilled_again : (s between after : Front X) (xs ys : List X) → Refilled s xs between → Refilled between ys after → length ys ≡ length xs → Refilled s ys after
  refilled_again s between after xs ys to on same =
      let used : between.used ≡ after.used = size_after s between xs to ∙ sym same ∙ sym (size_after between after ys on) in
      record {
        holds = on.holds;
        long = on.long ∙ to.long;
        rest = on.rest ∙ subst (λ n. drop n between.list.now ≡ drop n s.list.now) used to.rest;
      }
