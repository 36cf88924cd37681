-- The answers of the rules in the small states, found by the tests, and where the tables of those states stand.
use Rattle.std.proofs.Common.{◌≡◌, ℕ, [], ◌∷◌, refl, subst, arith}
use Rattle.rights.specs.declared.commands.Answer.{Answer}
use Rattle.rights.specs.declared.vocabulary.Privilege.{Privilege}
use Rattle.rights.specs.Access.{Answers}
use Rattle.rights.specs.Scenes.{Example, diamond, two_levels, owned_table, owned_view, allowed_view, scene, right_answer, ExamplesAnswered, one_base, with_base, with_view}
use Rattle.rights.specs.Tables.{no_tables, level, over_none, over_more}
use Rattle.rights.proofs.Access.{answer, answers}
use Rattle.rights.proofs.Tables.{Low, low_none, low_made}

-- a base table is of level 0, and every table of these states of 2 at most
pub base_low : (n t x d : ℕ) → Low (with_base t x no_tables) n d
base_low n t x = low_made no_tables t (record { owner = x; names = [] }) n 0 (low_none n) refl over_none (omega arith)

one_view_low : (x : ℕ) (d : ℕ) → Low (with_view 6 x 5 one_base) 2 d
one_view_low x = low_made one_base 6 (record { owner = x; names = 5 ∷ [] }) 2 1 (base_low 2 5 1) refl (over_more (level refl over_none) over_none) (omega arith)

two_views_low : (d : ℕ) → Low (with_view 7 1 6 (with_view 6 1 5 one_base)) 2 d
two_views_low = low_made (with_view 6 1 5 one_base) 7 (record { owner = 1; names = 6 ∷ [] }) 2 2 (one_view_low 1) refl
    (over_more (level refl (over_more (level refl over_none) over_none)) over_none) (omega arith)

scene_low : (x : Example) → Low (scene x).tables 2 (scene x).asked
scene_low two_levels = two_views_low 7
scene_low owned_table = base_low 2 5 2 5
scene_low owned_view = one_view_low 2 6
scene_low allowed_view = one_view_low 2 6
scene_low _ = base_low 2 5 1 5

-- what the tests answer
abbrev found : Example → Answer
found x = answer (scene x).pairs (scene x).tables (scene x).entries 2 2 Privilege.Select (scene x).asked

found_right : (x : Example) → found x ≡ right_answer x
found_right diamond = refl
found_right _ = refl

pub examples_answered : ExamplesAnswered
examples_answered x =
    subst (Answers (scene x).pairs (scene x).tables (scene x).entries 2 Privilege.Select (scene x).asked) (found_right x)
    (answers (scene x).pairs (scene x).tables (scene x).entries 2 2 Privilege.Select (scene x).asked (scene_low x))
