-- The words of a sheet are told apart by their bytes. Assumes nothing.
use Rattle.std.proofs.Common.{◌≡◌, ℕ, cond, List, [], ◌∷◌, Some, None, Option, sym, refl, ap, ◌∙◌}
use Rattle.std.specs.Str.{bytes_eq}
use Rattle.rights.proofs.Checks.{none_some}
use Rattle.reader.specs.declared.words.Word.{Word}
use Rattle.reader.specs.Exactly.{Exactly}
use Rattle.reader.specs.Words.{text}

pub exactly_some : {X : Type 0} (P : X → Type 0) (x : X) → P x → ((y : X) → P y → x ≡ y) → Exactly (Some x) P
exactly_some P x here once y = (λ e. let same : x ≡ y = cc in rw (← same) here, λ h. ap Some (once y h))

pub exactly_none : {X : Type 0} (P : X → Type 0) → ((y : X) → P y → ⊥) → Exactly None P
exactly_none P never y = (λ e. absurd (none_some y e), λ h. absurd (never y h))

-- the first word of a list that is written so
abbrev among : List ℕ → List Word → Option Word
among bs [] = None
among bs (w ∷ ws) = cond (bytes_eq (text w) bs) (Some w) (among bs ws)

abbrev every_word : List Word
every_word = Word.User ∷ Word.Group ∷ Word.Open ∷ Word.Close ∷ Word.Admit ∷ Word.Remove ∷ Word.Base ∷ Word.View ∷ Word.Drop ∷ Word.Give ∷ Word.Ungive ∷ Word.Lend ∷ Word.Unlend ∷ Word.May ∷ []

found : (w : Word) → among (text w) every_word ≡ Some w
found Word.User = refl
found Word.Group = refl
found Word.Open = refl
found Word.Close = refl
found Word.Admit = refl
found Word.Remove = refl
found Word.Base = refl
found Word.View = refl
found Word.Drop = refl
found Word.Give = refl
found Word.Ungive = refl
found Word.Lend = refl
found Word.Unlend = refl
found Word.May = refl

pub same_word : (v w : Word) → text v ≡ text w → v ≡ w
same_word v w e = let both : Some v ≡ Some w = sym (found v) ∙ ap (λ bs. among bs every_word) e ∙ found w in cc
