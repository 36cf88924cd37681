-- The numbers of a sheet: their ranges, and the number of each part of a right.
use Rattle.std.specs.Prelude.{ℕ, ◌≤◌, Bool, true, false}
use Rattle.rights.specs.declared.commands.Ground.{Ground}
use Rattle.rights.specs.declared.vocabulary.Privilege.{Privilege}
use Rattle.rights.specs.declared.vocabulary.Sign.{Sign}
use Rattle.rights.specs.declared.vocabulary.Strength.{Strength}
use Rattle.rights.specs.declared.vocabulary.Kind.{Kind}
use Rattle.rights.specs.declared.vocabulary.Rank.{Rank}

-- an issuer may be 0, the office
abbrev pub IssuerNumber : ℕ → Type 0
IssuerNumber i = i ≤ 255

-- persons and groups
abbrev pub SubjectNumber : ℕ → Type 0
SubjectNumber s = (1 ≤ s) × (s ≤ 255)

abbrev pub TableNumber : ℕ → Type 0
TableNumber t = t ≤ 127

abbrev pub PrivilegeNumber : ℕ → Type 0
PrivilegeNumber p = p ≤ 3

-- a sign, a strength, a kind, a rank or a creator's mark
abbrev pub FlagNumber : ℕ → Type 0
FlagNumber b = b ≤ 1

abbrev pub privilege_number : Privilege → ℕ
privilege_number Privilege.Select = 0
privilege_number Privilege.Insert = 1
privilege_number Privilege.Delete = 2
privilege_number Privilege.Update = 3

abbrev pub sign_number : Sign → ℕ
sign_number Sign.Plus = 0
sign_number Sign.Minus = 1

abbrev pub strength_number : Strength → ℕ
strength_number Strength.Weak = 0
strength_number Strength.Strong = 1

abbrev pub kind_number : Kind → ℕ
kind_number Kind.AdmAccess = 0
kind_number Kind.Administer = 1

abbrev pub rank_number : Rank → ℕ
rank_number Rank.Weak = 0
rank_number Rank.Strong = 1

abbrev pub mark_number : Bool → ℕ
mark_number false = 0
mark_number true = 1

abbrev pub ground_number : Ground → ℕ
ground_number Ground.Nothing = 0
ground_number Ground.Strong = 1
ground_number Ground.Weak = 2
ground_number Ground.Named = 3
