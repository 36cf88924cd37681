-- Laws of bit numbers: each is below 32, and a right is found from its number and back.
use Rattle.std.proofs.Common.{◌≡◌, ◌<◌, ◌≤◌, get_or, sym, refl, ap, ◌∙◌, arith}
use Rattle.rights.specs.declared.vocabulary.Right.{Right}
use Rattle.rights.specs.declared.vocabulary.Right.TheVariants.{Access, Admin}
use Rattle.rights.specs.declared.vocabulary.Privilege.{Privilege}
use Rattle.rights.specs.declared.vocabulary.Privilege.TheVariants.{Select}
use Rattle.rights.specs.declared.vocabulary.Sign.{Sign}
use Rattle.rights.specs.declared.vocabulary.Sign.TheVariants.{Plus, Minus}
use Rattle.rights.specs.declared.vocabulary.Strength.{Strength}
use Rattle.rights.specs.declared.vocabulary.Kind.{Kind}
use Rattle.rights.specs.declared.vocabulary.Kind.TheVariants.{AdmAccess, Administer}
use Rattle.rights.specs.declared.vocabulary.Rank.{Rank}
use Rattle.rights.specs.Bits.{bit, rows}
use Rattle.rights.specs.Numbers.{privilege_number, sign_number, strength_number, kind_number, rank_number}

-- each right stands in its row
row_of_access : (p : Privilege) (s : Sign) (r : Strength) (d : Right) → get_or rows (bit (Access p s r)) d ≡ Access p s r
row_of_access =
    elim [
      | Select ↦ elim [ Plus ↦ elim [ Strength.Weak ↦ λ d. refl | _ ↦ λ d. refl ] | _ ↦ elim [ Strength.Weak ↦ λ d. refl | _ ↦ λ d. refl ] ]
      | _ ↦ elim [ Plus ↦ elim [ Strength.Weak ↦ λ d. refl | _ ↦ λ d. refl ] | _ ↦ elim [ Strength.Weak ↦ λ d. refl | _ ↦ λ d. refl ] ]
    ]

row_of_admin : (p : Privilege) (k : Kind) (r : Rank) (d : Right) → get_or rows (bit (Admin p k r)) d ≡ Admin p k r
row_of_admin =
    elim [
      | Select ↦ elim [ AdmAccess ↦ elim [ Rank.Weak ↦ λ d. refl | _ ↦ λ d. refl ] | _ ↦ elim [ Rank.Weak ↦ λ d. refl | _ ↦ λ d. refl ] ]
      | _ ↦ elim [ AdmAccess ↦ elim [ Rank.Weak ↦ λ d. refl | _ ↦ λ d. refl ] | _ ↦ elim [ Rank.Weak ↦ λ d. refl | _ ↦ λ d. refl ] ]
    ]

pub row_of : (r d : Right) → get_or rows (bit r) d ≡ r
row_of (Access p s r) = row_of_access p s r
row_of (Admin p k r) = row_of_admin p k r

pub privilege_few : (p : Privilege) → privilege_number p ≤ 3
privilege_few = elim [ Select ↦ omega arith | _ ↦ omega arith ]

pub sign_few : (x : Sign) → sign_number x ≤ 1
sign_few = elim [ Plus ↦ omega arith | Minus ↦ omega arith ]

pub strength_few : (x : Strength) → strength_number x ≤ 1
strength_few = elim [ Strength.Weak ↦ omega arith | Strength.Strong ↦ omega arith ]

pub kind_few : (x : Kind) → kind_number x ≤ 1
kind_few = elim [ AdmAccess ↦ omega arith | Administer ↦ omega arith ]

pub rank_few : (x : Rank) → rank_number x ≤ 1
rank_few = elim [ Rank.Weak ↦ omega arith | Rank.Strong ↦ omega arith ]

pub bit_below : (r : Right) → bit r < 32
bit_below (Access p s r) = omega (arith, privilege_few p, sign_few s, strength_few r)
bit_below (Admin p k r) = omega (arith, privilege_few p, kind_few k, rank_few r)

-- no two rights have one number
pub bit_injective : (r q : Right) → bit r ≡ bit q → r ≡ q
bit_injective r q e = sym (row_of r r) ∙ ap (λ n. get_or rows n r) e ∙ row_of q r
