-- Cover: what lets a person grant. By owning a base table, by an administrative entry, or for a view
-- that he owns by cover on every table it names. Supported: an entry whose grantor has the cover it needs.
use Rattle.std.specs.Prelude.{◌≡◌, ℕ, ◌≤◌, List}
use Rattle.rights.specs.declared.entries.Entry.{Entry}
use Rattle.rights.specs.declared.vocabulary.Kind.{Kind}
use Rattle.rights.specs.declared.vocabulary.Privilege.{Privilege}
use Rattle.rights.specs.declared.vocabulary.Rank.{Rank}
use Rattle.rights.specs.declared.vocabulary.Right.{Right}
use Rattle.rights.specs.declared.vocabulary.Strength.{Strength}
use Rattle.rights.specs.Lists.{In}
use Rattle.rights.specs.Numbers.{kind_number, rank_number}
use Rattle.rights.specs.Tables.{Tables, IsBase, IsView, Owns, Names}

-- e lends p on t to x with kind at least k and rank at least r
abbrev pub Lends : Entry → ℕ → Kind → Rank → Privilege → ℕ → Type 0
Lends e x k r p t = (e.subject ≡ x) × (e.table ≡ t) × ((k' : Kind) × (r' : Rank) × (e.right ≡ Right.Admin p k' r') × (kind_number k ≤ kind_number k') × (rank_number r ≤ rank_number r'))

-- x covers kind k and rank r for p on t
pub data Covers (tables : Tables) (entries : List Entry) (x : ℕ) (k : Kind) (r : Rank) (p : Privilege) : ℕ → Type 0 where
  by_owning : {t : ℕ} → IsBase tables t → Owns tables x t → Covers tables entries x k r p t
  by_entry : {t : ℕ} (e : Entry) → In e entries → Lends e x k r p t → Covers tables entries x k r p t
  by_names : {t : ℕ} → IsView tables t → Owns tables x t → ((d : ℕ) → Names tables t d → Covers tables entries x k r p d) → Covers tables entries x k r p t

abbrev pub privilege_in : Right → Privilege
privilege_in (Right.Access p sign r) = p
privilege_in (Right.Admin p k r) = p

-- access is granted under kind 0, administration of either kind under kind 1
abbrev pub kind_needed : Right → Kind
kind_needed (Right.Access p sign r) = Kind.AdmAccess
kind_needed (Right.Admin p k r) = Kind.Administer

abbrev pub rank_for : Strength → Rank
rank_for Strength.Weak = Rank.Weak
rank_for Strength.Strong = Rank.Strong

-- the rank needed is the strength or rank that is granted
abbrev pub rank_needed : Right → Rank
rank_needed (Right.Access p sign r) = rank_for r
rank_needed (Right.Admin p k r) = r

-- the grantor of e has the cover that e needs, from ownership and these entries
unfoldable pub Supported : Tables → List Entry → Entry → Type 0
Supported tables entries e = Covers tables entries e.grantor (kind_needed e.right) (rank_needed e.right) (privilege_in e.right) e.table
