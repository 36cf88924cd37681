-- The bit number of each of the thirty-two rights: access first, four numbers for each privilege in turn.
-- rows: the rights in the order of their numbers.
use Rattle.std.specs.Prelude.{ℕ, ◌+◌, ◌*◌, List, [], ◌∷◌}
use Rattle.rights.specs.declared.vocabulary.Right.{Right}
use Rattle.rights.specs.declared.vocabulary.Right.TheVariants.{Access, Admin}
use Rattle.rights.specs.declared.vocabulary.Privilege.TheVariants.{Select, Insert, Delete, Update}
use Rattle.rights.specs.declared.vocabulary.Sign.TheVariants.{Plus, Minus}
use Rattle.rights.specs.declared.vocabulary.Strength.{Strength}
use Rattle.rights.specs.declared.vocabulary.Kind.TheVariants.{AdmAccess, Administer}
use Rattle.rights.specs.declared.vocabulary.Rank.{Rank}
use Rattle.rights.specs.Numbers.{privilege_number, sign_number, strength_number, kind_number, rank_number}

-- weak plus, strong plus, weak minus, strong minus from 0 on;
-- weak adm-access, strong adm-access, weak administer, strong administer from 16 on
abbrev pub bit : Right → ℕ
bit (Right.Access p s r) = 4 * privilege_number p + (2 * sign_number s + strength_number r)
bit (Right.Admin p k r) = 16 + (4 * privilege_number p + (2 * kind_number k + rank_number r))

-- the rights in the order of their numbers
abbrev pub rows : List Right
rows = Access Select Plus Strength.Weak ∷ Access Select Plus Strength.Strong ∷ Access Select Minus Strength.Weak ∷ Access Select Minus Strength.Strong ∷ Access Insert Plus Strength.Weak ∷ Access Insert Plus Strength.Strong ∷ Access Insert Minus Strength.Weak ∷ Access Insert Minus Strength.Strong ∷ Access Delete Plus Strength.Weak ∷ Access Delete Plus Strength.Strong ∷ Access Delete Minus Strength.Weak ∷ Access Delete Minus Strength.Strong ∷ Access Update Plus Strength.Weak ∷ Access Update Plus Strength.Strong ∷ Access Update Minus Strength.Weak ∷ Access Update Minus Strength.Strong ∷ Admin Select AdmAccess Rank.Weak ∷ Admin Select AdmAccess Rank.Strong ∷ Admin Select Administer Rank.Weak ∷ Admin Select Administer Rank.Strong ∷ Admin Insert AdmAccess Rank.Weak ∷ Admin Insert AdmAccess Rank.Strong ∷ Admin Insert Administer Rank.Weak ∷ Admin Insert Administer Rank.Strong ∷ Admin Delete AdmAccess Rank.Weak ∷ Admin Delete AdmAccess Rank.Strong ∷ Admin Delete Administer Rank.Weak ∷ Admin Delete Administer Rank.Strong ∷ Admin Update AdmAccess Rank.Weak ∷ Admin Update AdmAccess Rank.Strong ∷ Admin Update Administer Rank.Weak ∷ Admin Update Administer Rank.Strong ∷ []
