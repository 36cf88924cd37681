-- Entries and rights from the plain numbers of a command. Only numbers in their range are ever read so.
use Rattle.std.specs.Prelude.{ℕ, zero, suc, Bool, true, false, List, take}
use Rattle.rights.specs.declared.commands.Named.{Named}
use Rattle.rights.specs.declared.entries.Entry.{Entry}
use Rattle.rights.specs.declared.vocabulary.Kind.{Kind}
use Rattle.rights.specs.declared.vocabulary.Privilege.{Privilege}
use Rattle.rights.specs.declared.vocabulary.Rank.{Rank}
use Rattle.rights.specs.declared.vocabulary.Right.{Right}
use Rattle.rights.specs.declared.vocabulary.Sign.{Sign}
use Rattle.rights.specs.declared.vocabulary.Strength.{Strength}

abbrev pub privilege_of : ℕ → Privilege
privilege_of zero = Privilege.Select
privilege_of (suc zero) = Privilege.Insert
privilege_of (suc (suc zero)) = Privilege.Delete
privilege_of (suc (suc (suc n))) = Privilege.Update

abbrev pub sign_of : ℕ → Sign
sign_of zero = Sign.Plus
sign_of (suc n) = Sign.Minus

abbrev pub strength_of : ℕ → Strength
strength_of zero = Strength.Weak
strength_of (suc n) = Strength.Strong

abbrev pub kind_of : ℕ → Kind
kind_of zero = Kind.AdmAccess
kind_of (suc n) = Kind.Administer

abbrev pub rank_of : ℕ → Rank
rank_of zero = Rank.Weak
rank_of (suc n) = Rank.Strong

abbrev pub mark_of : ℕ → Bool
mark_of zero = false
mark_of (suc n) = true

-- i grants s access: p, sign, t, strength
abbrev pub access_entry : ℕ → ℕ → ℕ → ℕ → ℕ → ℕ → Entry
access_entry i s p sign t strength = record { subject = s; table = t; grantor = i; right = Right.Access (privilege_of p) (sign_of sign) (strength_of strength) }

-- i grants s administration: p, t, kind, rank
abbrev pub admin_entry : ℕ → ℕ → ℕ → ℕ → ℕ → ℕ → Entry
admin_entry i s p t kind rank = record { subject = s; table = t; grantor = i; right = Right.Admin (privilege_of p) (kind_of kind) (rank_of rank) }

-- the tables that a view is to name
abbrev pub tables_in : Named → List ℕ
tables_in d = take d.count d.tables
