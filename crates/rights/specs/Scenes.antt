-- Small states, each with one question for person 2, in which a wrong reading of the rules gives another answer.
use Rattle.std.specs.Prelude.{ℕ, List, [], ◌∷◌}
use Rattle.rights.specs.declared.commands.Answer.{Answer}
use Rattle.rights.specs.declared.commands.Ground.{Ground}
use Rattle.rights.specs.declared.entries.Entry.{Entry}
use Rattle.rights.specs.declared.entries.Pair.{Pair}
use Rattle.rights.specs.declared.vocabulary.Privilege.{Privilege}
use Rattle.rights.specs.declared.vocabulary.Right.{Right}
use Rattle.rights.specs.declared.vocabulary.Sign.{Sign}
use Rattle.rights.specs.declared.vocabulary.Strength.{Strength}
use Rattle.rights.specs.Access.{Answers}
use Rattle.rights.specs.Pairs.{pair}
use Rattle.rights.specs.Tables.{Tables, no_tables, made}

pub data Example : Type 0 where
  diamond shortcut own_plus both_signs two_levels owned_table owned_view allowed_view : Example

abbrev pub examples : List Example
examples = diamond ∷ shortcut ∷ own_plus ∷ both_signs ∷ two_levels ∷ owned_table ∷ owned_view ∷ allowed_view ∷ []

-- a state, and the table that the question is about
pub record Scene : Type 0 where
  pub pairs : List Pair
  pub tables : Tables
  pub entries : List Entry
  pub asked : ℕ

-- an entry of person 1 for s to select from t
abbrev pub entry : ℕ → Sign → Strength → ℕ → Entry
entry s sign r t = record { subject = s; table = t; grantor = 1; right = Right.Access Privilege.Select sign r }

abbrev pub weak_plus : ℕ → ℕ → Entry
weak_plus s t = entry s Sign.Plus Strength.Weak t

abbrev pub weak_minus : ℕ → ℕ → Entry
weak_minus s t = entry s Sign.Minus Strength.Weak t

abbrev pub with_base : ℕ → ℕ → Tables → Tables
with_base t x tables = made t (record { owner = x; names = [] }) tables

abbrev pub with_view : ℕ → ℕ → ℕ → Tables → Tables
with_view t x d tables = made t (record { owner = x; names = d ∷ [] }) tables

-- base table 5 of person 1
abbrev pub one_base : Tables
one_base = with_base 5 1 no_tables

abbrev pub scene : Example → Scene
-- two ways lead from 2 to the plus of 12, and a minus stands on one of them: both apply
scene diamond = record {
  pairs = pair 2 10 ∷ pair 2 11 ∷ pair 10 12 ∷ pair 11 12 ∷ [];
  tables = one_base;
  entries = weak_minus 10 5 ∷ weak_plus 12 5 ∷ [];
  asked = 5;
}
-- the plus of 10 stands on one way to the minus of 11, and the direct way is free: both apply
scene shortcut = record {
  pairs = pair 2 10 ∷ pair 2 11 ∷ pair 10 11 ∷ [];
  tables = one_base;
  entries = weak_plus 10 5 ∷ weak_minus 11 5 ∷ [];
  asked = 5;
}
-- the asker's own plus blocks the way to the minus of 10
scene own_plus = record {
  pairs = pair 2 10 ∷ [];
  tables = one_base;
  entries = weak_plus 2 5 ∷ weak_minus 10 5 ∷ [];
  asked = 5;
}
-- the plus of 10 does not block the way to the minus of 10 itself
scene both_signs = record {
  pairs = pair 2 10 ∷ pair 2 11 ∷ [];
  tables = one_base;
  entries = weak_plus 10 5 ∷ weak_minus 10 5 ∷ weak_plus 11 5 ∷ [];
  asked = 5;
}
-- the strong minus stands two levels beneath the view
scene two_levels = record {
  pairs = [];
  tables = with_view 7 1 6 (with_view 6 1 5 one_base);
  entries = entry 2 Sign.Minus Strength.Strong 5 ∷ weak_plus 2 7 ∷ [];
  asked = 7;
}
-- the owner of a base table needs no entry
scene owned_table = record {
  pairs = [];
  tables = with_base 5 2 no_tables;
  entries = [];
  asked = 5;
}
-- the owner of a view over another's table has nothing by owning it
scene owned_view = record {
  pairs = [];
  tables = with_view 6 2 5 one_base;
  entries = [];
  asked = 6;
}
-- unless the rules give yes on every table that it names
scene allowed_view = record {
  pairs = [];
  tables = with_view 6 2 5 one_base;
  entries = weak_plus 2 5 ∷ [];
  asked = 6;
}

abbrev pub right_answer : Example → Answer
right_answer diamond = Answer.No Ground.Nothing
right_answer shortcut = Answer.No Ground.Nothing
right_answer own_plus = Answer.Yes Ground.Weak
right_answer both_signs = Answer.No Ground.Nothing
right_answer two_levels = Answer.No Ground.Strong
right_answer owned_table = Answer.Yes Ground.Strong
right_answer owned_view = Answer.No Ground.Nothing
right_answer allowed_view = Answer.Yes Ground.Named

-- the rules give the right answer in each
abbrev pub ExamplesAnswered : Type 0
ExamplesAnswered = (x : Example) → Answers (scene x).pairs (scene x).tables (scene x).entries 2 Privilege.Select (scene x).asked (right_answer x)
