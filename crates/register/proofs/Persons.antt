-- A test of each row tells whether anybody is a person. Assumes nothing.
use Rattle.std.proofs.Common.{◌≡◌, ℕ, zero, suc, Bool, true, List, [], ◌∷◌, Some, None, Option, refl, ◌∙◌, sym}
use Rattle.std.specs.Prelude.{◌↔◌, IsTrue}
use Rattle.std.specs.List.{list_any}
use Rattle.std.proofs.lemmas.Bool.{false≢true}
use Rattle.rights.specs.declared.records.Subject.{Subject}
use Rattle.rights.specs.Subjects.{IsPerson}
use Rattle.rights.proofs.Checks.{none_some}
use Rattle.register.specs.Rows.{subjects_of, is_person}

listed_from : (ss : List (Option Subject)) → list_any is_person ss ≡ true → (n : ℕ) × IsPerson (subjects_of ss) n
listed_from [] e = absurd (false≢true e)
listed_from (Some (Subject.Person mark) ∷ ss) e = (0, (mark, refl))
listed_from (Some Subject.Group ∷ ss) e = let later = listed_from ss e in (suc later.0, later.1)
listed_from (None ∷ ss) e = let later = listed_from ss e in (suc later.0, later.1)

found_from : (ss : List (Option Subject)) (n : ℕ) → IsPerson (subjects_of ss) n → list_any is_person ss ≡ true
found_from [] n p = absurd (none_some _ p.1)
found_from (Some (Subject.Person mark) ∷ ss) n p = refl
found_from (Some Subject.Group ∷ ss) zero p = cc p.1
found_from (Some Subject.Group ∷ ss) (suc n) p = found_from ss n p
found_from (None ∷ ss) zero p = absurd (none_some _ p.1)
found_from (None ∷ ss) (suc n) p = found_from ss n p

pub person_listed : (ss : List (Option Subject)) (b : Bool) → b ≡ list_any is_person ss → IsTrue b ↔ ((n : ℕ) × IsPerson (subjects_of ss) n)
person_listed ss b e = ((λ is. listed_from ss (sym e ∙ is)), (λ p. e ∙ found_from ss p.0 p.1))
