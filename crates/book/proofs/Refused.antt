-- When a put and a taking refuse, told of what a search for the entry found.
use Rattle.std.proofs.Common.{◌≡◌, ℕ, ◌<◌, get_or, List, [], ◌∷◌, length, Some, None, Option, Ok, Err, Result, true, is_ok, refl, ◌∙◌, arith}
use Rattle.std.specs.List.{slice_get}
use Rattle.std.specs.Option.{OnSome}
use Rattle.std.specs.Result.{OnOk}
use Rattle.std.proofs.lemmas.Option.{none-some, slice_get-get_or}
use Rattle.std.proofs.lemmas.Bool.{false≢true}
use Rattle.rights.specs.declared.entries.Entry.{Entry}
use Rattle.rights.specs.declared.faults.BookFault.{BookFault}
use Rattle.rights.specs.Checks.{First, fault_of}
use Rattle.rights.specs.Entries.{Proper}
use Rattle.rights.specs.Lists.{In}
use Rattle.rights.proofs.Checks.{first_hit, first_miss, first_none}
use Rattle.book.specs.Effects.{put_checks, take_checks}

module _ (es : List Entry) (most : ℕ) (e : Entry) where
  pub put_improper : (Proper e → ⊥) → First (put_checks es most e) (Some BookFault.BadNumber)
  put_improper bad = first_hit _ _ bad

  pub take_improper : (Proper e → ⊥) → First (take_checks es e) (Some BookFault.BadNumber)
  take_improper bad = first_hit _ _ bad

  module _ (good : Proper e) where
    pub put_taken : In e es → First (put_checks es most e) (Some BookFault.Taken)
    put_taken stands = first_miss _ _ _ (λ bad. bad good) (first_hit _ _ stands)

    pub put_full : (In e es → ⊥) → length es ≡ most → First (put_checks es most e) (Some BookFault.Full)
    put_full new full = first_miss _ _ _ (λ bad. bad good) (first_miss _ _ _ new (first_hit _ _ full))

    pub put_done : (In e es → ⊥) → (length es ≡ most → ⊥) → First (put_checks es most e) None
    put_done new room = first_miss _ _ _ (λ bad. bad good) (first_miss _ _ _ new (first_miss _ _ _ room (first_none _ refl)))

    pub take_absent : (In e es → ⊥) → First (take_checks es e) (Some BookFault.Absent)
    take_absent gone = first_miss _ _ _ (λ bad. bad good) (first_hit _ _ gone)

    pub take_done : In e es → First (take_checks es e) None
    take_done stands = first_miss _ _ _ (λ bad. bad good) (first_miss _ _ _ (λ gone. gone stands) (first_none _ refl))

-- an answer that is no refusal
pub no_fault : {X F : Type 0} (r : Result X F) → is_ok r ≡ true → fault_of r ≡ None
no_fault (Ok x) is = refl
no_fault (Err f) is = absurd (false≢true is)

pub of_ok : {X F P : Type 0} (r : Result X F) → is_ok r ≡ true → OnOk r P → P
of_ok (Ok x) is h = h
of_ok (Err f) is h = absurd (false≢true is)

pub on_ok : {X F P : Type 0} (r : Result X F) → P → OnOk r P
on_ok (Ok x) h = h
on_ok (Err f) h = tt

-- what stands at a place is given
pub of_some : {X P : Type 0} (r : Option X) (xs : List X) (k : ℕ) → k < length xs → r ≡ slice_get xs k → OnSome r P → P
of_some (Some x) xs k in' is h = h
of_some None xs k in' is h = absurd (none-some (get_or xs k (first xs k in')) (is ∙ slice_get-get_or xs k (first xs k in') in'))
  where
    first : {X : Type 0} (ys : List X) (j : ℕ) → j < length ys → X
    first [] j h = absurd (omega arith)
    first (y ∷ ys) j h = y
