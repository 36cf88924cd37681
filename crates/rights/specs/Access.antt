-- When access is given: five rules, of which the first that applies decides.
-- Denied: the second rule. Weakly: the third. ByNames: the fourth. Granted: the rules give yes.
-- Answers: the word and the ground that the rules give.
use Rattle.std.specs.Prelude.{◌≡◌, ℕ, ◌⊎◌, List, [], ◌∷◌, Some}
use Rattle.rights.specs.declared.commands.Answer.{Answer}
use Rattle.rights.specs.declared.commands.Ground.{Ground}
use Rattle.rights.specs.declared.entries.Entry.{Entry}
use Rattle.rights.specs.declared.entries.Pair.{Pair}
use Rattle.rights.specs.declared.vocabulary.Privilege.{Privilege}
use Rattle.rights.specs.declared.vocabulary.Sign.{Sign}
use Rattle.rights.specs.declared.vocabulary.Strength.{Strength}
use Rattle.rights.specs.Checks.{Check, First}
use Rattle.rights.specs.Holding.{Gives, StrongPlus, StrongMinus}
use Rattle.rights.specs.Lists.{In}
use Rattle.rights.specs.Tables.{Tables, IsBase, IsView, Owns, Names, Beneath}
use Rattle.rights.specs.Within.{Path}

-- the property holds at every subject of the path but the last
abbrev pub ButLast : (ℕ → Type 0) → List ℕ → Type 0
ButLast P [] = Unit {0}
ButLast P (s ∷ []) = Unit {0}
ButLast P (s ∷ g ∷ l) = P s × ButLast P (g ∷ l)

abbrev pub other : Sign → Sign
other Sign.Plus = Sign.Minus
other Sign.Minus = Sign.Plus

module _ (pairs : List Pair) (tables : Tables) (entries : List Entry) where
  -- some grantor's weak entry of this sign for p on t stands for s itself
  unfoldable pub WeakAt : Privilege → Sign → ℕ → ℕ → Type 0
  WeakAt p sign t s = (e : Entry) × In e entries × Gives e p sign t Strength.Weak × (e.subject ≡ s)

  -- some path from u to the subject of a weak entry has no weak entry of the other sign before its end
  unfoldable pub Applies : ℕ → Privilege → Sign → ℕ → Type 0
  Applies u p sign t = (s : ℕ) × (l : List ℕ) × WeakAt p sign t s × Path pairs u s l × ButLast (λ x. WeakAt p (other sign) t x → ⊥) l

  -- a strong minus is held on the table or on a base table beneath it
  unfoldable pub Denied : ℕ → Privilege → ℕ → Type 0
  Denied u p t = StrongMinus pairs entries u p t ⊎ ((b : ℕ) × IsBase tables b × Beneath tables b t × StrongMinus pairs entries u p b)

  -- a weak plus applies and no weak minus does
  unfoldable pub Weakly : ℕ → Privilege → ℕ → Type 0
  Weakly u p t = Applies u p Sign.Plus t × (Applies u p Sign.Minus t → ⊥)

  -- the rules give yes
  pub data Granted (u : ℕ) (p : Privilege) : ℕ → Type 0 where
    strongly : {t : ℕ} → StrongPlus pairs tables entries u p t → Granted u p t
    weakly : {t : ℕ} → (Denied u p t → ⊥) → Weakly u p t → Granted u p t
    by_names : {t : ℕ} → (Denied u p t → ⊥) → IsView tables t → Owns tables u t → ((d : ℕ) → Names tables t d → Granted u p d) → Granted u p t

  -- u owns the view, and the rules give yes on every table that it names
  unfoldable pub ByNames : ℕ → Privilege → ℕ → Type 0
  ByNames u p t = IsView tables t × Owns tables u t × ((d : ℕ) → Names tables t d → Granted u p d)

  -- the five rules in their order, each with its answer
  unfoldable pub rules : ℕ → Privilege → ℕ → List (Check Answer)
  rules u p t =
      record { gives = Answer.Yes Ground.Strong; when = StrongPlus pairs tables entries u p t } ∷
      record { gives = Answer.No Ground.Strong; when = Denied u p t } ∷
      record { gives = Answer.Yes Ground.Weak; when = Weakly u p t } ∷
      record { gives = Answer.Yes Ground.Named; when = ByNames u p t } ∷
      record { gives = Answer.No Ground.Nothing; when = Unit {0} } ∷
      []

  -- the answer to whether u may use p on t
  unfoldable pub Answers : ℕ → Privilege → ℕ → Answer → Type 0
  Answers u p t a = First (rules u p t) (Some a)
