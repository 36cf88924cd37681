-- Short examples that tell the rules of cover and chains from what they could be mistaken for. Each is a run
-- from the empty history, or a fact of chains, that comes out otherwise under the mistaken rule.
use Rattle.std.specs.Prelude.{List, [], ◌∷◌, ◌++◌, length, replicate}
use Rattle.std.proofs.Common.{lit≤}
use Rattle.rights.specs.declared.commands.Answer.{Answer}
use Rattle.rights.specs.declared.commands.Command.{Command}
use Rattle.rights.specs.declared.entries.Entry.{Entry}
use Rattle.rights.specs.Chain.{HasChain}
use Rattle.rights.specs.Lists.{In}
use Rattle.rights.specs.Read.{admin_entry}
use Rattle.rights.specs.Tables.{Tables, no_tables, made}
use Rattle.rights.specs.Worked.{mandate_lacking, Leads}

-- persons 1, 2 and 3, of whom 1 and 2 may make tables
abbrev pub opened : List Command
opened = Command.User 1 1 ∷ Command.User 2 1 ∷ Command.User 3 0 ∷ Command.Open ∷ []

-- commands that are all accepted, then some with these answers, which strike these entries
pub record Example : Type 0 where
  pub first : List Command
  pub then : List Command
  pub struck : List (List Entry)
  pub answers : List Answer

abbrev pub commands_of : Example → List Command
commands_of x = opened ++ (x.first ++ x.then)

abbrev pub struck_of : Example → List (List Entry)
struck_of x = replicate (length (opened ++ x.first)) [] ++ x.struck

abbrev pub answers_of : Example → List Answer
answers_of x = replicate (length (opened ++ x.first)) Answer.Done ++ x.answers

-- from the empty history the commands of the example come to this
abbrev pub Shows : Example → Type 0
Shows x = Leads (commands_of x) (struck_of x) (answers_of x)

-- persons 2 and 3 lent to each other what the owner had lent to 2; when the owner withdraws it, both are struck
abbrev pub delegates : Example
delegates =
    record {
      first = Command.Base 1 5 ∷ Command.Lend 1 2 0 5 1 1 ∷ Command.Lend 2 3 0 5 1 1 ∷ Command.Lend 3 2 0 5 1 1 ∷ [];
      then = Command.Unlend 1 2 0 5 1 1 ∷ [];
      struck = (admin_entry 1 2 0 5 1 1 ∷ admin_entry 3 2 0 5 1 1 ∷ admin_entry 2 3 0 5 1 1 ∷ []) ∷ [];
      answers = Answer.Struck 3 ∷ [];
    }

-- person 2 lent to himself what the owner had lent to him; when the owner withdraws it, both are struck
abbrev pub oneself : Example
oneself =
    record {
      first = Command.Base 1 5 ∷ Command.Lend 1 2 0 5 1 1 ∷ Command.Lend 2 2 0 5 1 1 ∷ [];
      then = Command.Unlend 1 2 0 5 1 1 ∷ [];
      struck = (admin_entry 1 2 0 5 1 1 ∷ admin_entry 2 2 0 5 1 1 ∷ []) ∷ [];
      answers = Answer.Struck 2 ∷ [];
    }

-- two entries that support each other have no chain, nor has one that supports itself
abbrev pub owned_five : Tables
owned_five = made 5 (record { owner = 1; names = [] }) no_tables

abbrev pub EachOther : Type 0
EachOther = (e : Entry) → HasChain owned_five (λ f. In f (admin_entry 2 3 0 5 1 1 ∷ admin_entry 3 2 0 5 1 1 ∷ [])) e → ⊥

abbrev pub Itself : Type 0
Itself = (e : Entry) → HasChain owned_five (λ f. In f (admin_entry 2 2 0 5 1 1 ∷ [])) e → ⊥

-- the owner of a view needs cover on every table that it names; each may be covered in another way
abbrev pub every_named : Example
every_named =
    record {
      first = Command.Base 1 5 ∷ Command.Base 2 6 ∷ Command.View 1 7 (record { count = 2; tables = 5 ∷ 6 ∷ replicate 12 0; few = lit≤ tt }) ∷ [];
      then = Command.Give 1 3 0 0 7 0 ∷ Command.Lend 2 1 0 6 0 0 ∷ Command.Give 1 3 0 0 7 0 ∷ [];
      struck = [] ∷ [] ∷ [] ∷ [];
      answers = Answer.Refused mandate_lacking ∷ Answer.Done ∷ Answer.Done ∷ [];
    }

-- kind and rank come from one entry: weak administration and strong adm-access do not make strong administration
abbrev pub one_entry : Example
one_entry =
    record {
      first = Command.Base 1 5 ∷ Command.Lend 1 2 0 5 1 0 ∷ Command.Lend 1 2 0 5 0 1 ∷ [];
      then = Command.Lend 2 3 0 5 0 1 ∷ Command.Lend 2 3 0 5 0 0 ∷ Command.Give 2 3 0 0 5 1 ∷ [];
      struck = [] ∷ [] ∷ [] ∷ [];
      answers = Answer.Refused mandate_lacking ∷ Answer.Done ∷ Answer.Done ∷ [];
    }
