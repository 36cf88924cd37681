-- How a command is written: its word, then each of its numbers after a space. Assumes nothing.
-- word, numbers: the parts of a command. written: its line. Plain: a command that a sheet can hold.
use Rattle.std.specs.Prelude.{◌≡◌, ℕ, ◌-◌, ◌≤◌, List, [], ◌∷◌, ◌++◌, map, length, drop, replicate, decimal}
use Rattle.std.specs.List.{AllByRecursion}
use Rattle.rights.specs.declared.commands.Command.{Command}
use Rattle.rights.specs.declared.commands.Named.{Named}
use Rattle.rights.specs.Read.{tables_in}
use Rattle.reader.specs.declared.words.Word.{Word}
use Rattle.reader.specs.Words.{text}

abbrev pub word : Command → Word
word (Command.User n c) = Word.User
word (Command.Group n) = Word.Group
word Command.Open = Word.Open
word Command.Close = Word.Close
word (Command.Admit i m g) = Word.Admit
word (Command.Remove i m g) = Word.Remove
word (Command.Base i t) = Word.Base
word (Command.View i t d) = Word.View
word (Command.Drop i t) = Word.Drop
word (Command.Give i s p sign t strength) = Word.Give
word (Command.Ungive i s p sign t strength) = Word.Ungive
word (Command.Lend i s p t kind rank) = Word.Lend
word (Command.Unlend i s p t kind rank) = Word.Unlend
word (Command.May u p t) = Word.May

abbrev pub numbers : Command → List ℕ
numbers (Command.User n c) = n ∷ c ∷ []
numbers (Command.Group n) = n ∷ []
numbers Command.Open = []
numbers Command.Close = []
numbers (Command.Admit i m g) = i ∷ m ∷ g ∷ []
numbers (Command.Remove i m g) = i ∷ m ∷ g ∷ []
numbers (Command.Base i t) = i ∷ t ∷ []
numbers (Command.View i t d) = i ∷ t ∷ tables_in d
numbers (Command.Drop i t) = i ∷ t ∷ []
numbers (Command.Give i s p sign t strength) = i ∷ s ∷ p ∷ sign ∷ t ∷ strength ∷ []
numbers (Command.Ungive i s p sign t strength) = i ∷ s ∷ p ∷ sign ∷ t ∷ strength ∷ []
numbers (Command.Lend i s p t kind rank) = i ∷ s ∷ p ∷ t ∷ kind ∷ rank ∷ []
numbers (Command.Unlend i s p t kind rank) = i ∷ s ∷ p ∷ t ∷ kind ∷ rank ∷ []
numbers (Command.May u p t) = u ∷ p ∷ t ∷ []

-- the parts of a line after its first, each after a space
abbrev pub spaced : List (List ℕ) → List ℕ
spaced [] = []
spaced (p ∷ ps) = 32 ∷ (p ++ spaced ps)

unfoldable pub written : Command → List ℕ
written c = text (word c) ++ spaced (map decimal (numbers c))

-- the places of the list that name no table hold 0
pub record Padded (d : Named) : Type 0 where
  pub whole : length d.tables ≡ 14
  pub unused : drop d.count d.tables ≡ replicate (14 - d.count) 0

-- the same of a command, where it is a view
abbrev pub PaddedView : Command → Type 0
PaddedView (Command.User n c) = Unit {0}
PaddedView (Command.Group n) = Unit {0}
PaddedView Command.Open = Unit {0}
PaddedView Command.Close = Unit {0}
PaddedView (Command.Admit i m g) = Unit {0}
PaddedView (Command.Remove i m g) = Unit {0}
PaddedView (Command.Base i t) = Unit {0}
PaddedView (Command.View i t d) = Padded d
PaddedView (Command.Drop i t) = Unit {0}
PaddedView (Command.Give i s p sign t strength) = Unit {0}
PaddedView (Command.Ungive i s p sign t strength) = Unit {0}
PaddedView (Command.Lend i s p t kind rank) = Unit {0}
PaddedView (Command.Unlend i s p t kind rank) = Unit {0}
PaddedView (Command.May u p t) = Unit {0}

-- every number has at most three digits
pub record Plain (c : Command) : Type 0 where
  pub short : AllByRecursion (λ n. n ≤ 999) (numbers c)
  pub padded : PaddedView c
