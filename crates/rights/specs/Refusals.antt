-- What each word refuses: an ordered list of refusals with their conditions, of which the first that applies is given.
-- Lent: what a call is lent. Takes: the words of each state. checks, sheet_checks: the list of a command.
use Rattle.std.specs.Prelude.{◌≡◌, ℕ, ◌<◌, ◌≤◌, ◌⊎◌, List, [], ◌∷◌, map, length, ◌≢◌}
use Rattle.std.specs.List.{AllByRecursion}
use Rattle.rights.specs.declared.commands.Command.{Command}
use Rattle.rights.specs.declared.commands.State.{State}
use Rattle.rights.specs.declared.entries.Entry.{Entry}
use Rattle.rights.specs.declared.faults.BookFault.{BookFault}
use Rattle.rights.specs.declared.faults.RegisterFault.{RegisterFault}
use Rattle.rights.specs.declared.faults.RollFault.{RollFault}
use Rattle.rights.specs.declared.faults.SheetFault.{SheetFault}
use Rattle.rights.specs.Checks.{Check, refuse}
use Rattle.rights.specs.Clash.{Clashing}
use Rattle.rights.specs.Cover.{Supported}
use Rattle.rights.specs.History.{History}
use Rattle.rights.specs.Lists.{In, Rising}
use Rattle.rights.specs.Numbers.{IssuerNumber, SubjectNumber, TableNumber, PrivilegeNumber, FlagNumber}
use Rattle.rights.specs.Pairs.{pair}
use Rattle.rights.specs.Read.{access_entry, admin_entry, tables_in}
use Rattle.rights.specs.Subjects.{Subjects, Registered, IsPerson, IsGroup, IsCreator}
use Rattle.rights.specs.Tables.{Tables, Stands, IsView, Owns, Names, LevelOver}
use Rattle.rights.specs.Within.{Within}

-- the lengths of slate and list, and the ceilings of book and roll
pub record Lent : Type 0 where
  pub slate : ℕ
  pub list : ℕ
  pub book_ceiling : ℕ
  pub roll_ceiling : ℕ

-- when a word has its turn
pub data Turn : Type 0 where
  preparing : Turn
  working : Turn
  asking : Turn

abbrev pub turn : Command → Turn
turn (Command.User n c) = preparing
turn (Command.Group n) = preparing
turn Command.Open = preparing
turn Command.Close = working
turn (Command.Admit i m g) = working
turn (Command.Remove i m g) = working
turn (Command.Base i t) = working
turn (Command.View i t d) = working
turn (Command.Drop i t) = working
turn (Command.Give i s p sign t strength) = working
turn (Command.Ungive i s p sign t strength) = working
turn (Command.Lend i s p t kind rank) = working
turn (Command.Unlend i s p t kind rank) = working
turn (Command.May u p t) = asking

abbrev pub InTurn : State → Turn → Type 0
InTurn State.SettingUp preparing = Unit {0}
InTurn State.SettingUp working = ⊥
InTurn State.SettingUp asking = ⊥
InTurn State.Open preparing = ⊥
InTurn State.Open working = Unit {0}
InTurn State.Open asking = Unit {0}
InTurn State.Closed preparing = ⊥
InTurn State.Closed working = ⊥
InTurn State.Closed asking = Unit {0}

-- a sitting in this state takes the word of this command
abbrev pub Takes : State → Command → Type 0
Takes state c = InTurn state (turn c)

-- an issuer other than the office is a registered person
abbrev pub StrangeIssuer : Subjects → ℕ → Type 0
StrangeIssuer subjects i = (i ≢ 0) × (IsPerson subjects i → ⊥)

-- tables are made by persons with the creator's mark, never by the office
abbrev pub NoMark : Subjects → ℕ → Type 0
NoMark subjects i = (i ≡ 0) ⊎ (IsCreator subjects i → ⊥)

-- 1 to 8 tables in strictly rising number, and a level of at most 7
unfoldable pub WellMade : Tables → List ℕ → Type 0
WellMade tables ds = (1 ≤ length ds) × (length ds ≤ 8) × Rising ◌<◌ ds × ((n : ℕ) × LevelOver tables ds n × (n ≤ 7))

-- the number is another subject's already
abbrev pub taken_check : Subjects → ℕ → List (Check RegisterFault)
taken_check subjects n = refuse RegisterFault.Taken (Registered subjects n) ∷ []

unfoldable pub user_checks : Subjects → ℕ → ℕ → List (Check RegisterFault)
user_checks subjects n c =
    refuse RegisterFault.BadNumber (SubjectNumber n × FlagNumber c → ⊥) ∷ taken_check subjects n

unfoldable pub group_checks : Subjects → ℕ → List (Check RegisterFault)
group_checks subjects n =
    refuse RegisterFault.BadNumber (SubjectNumber n → ⊥) ∷ taken_check subjects n

unfoldable pub open_checks : Subjects → List (Check RegisterFault)
open_checks subjects = refuse RegisterFault.Nobody ((n : ℕ) → IsPerson subjects n → ⊥) ∷ []

unfoldable pub base_checks : Subjects → Tables → ℕ → ℕ → List (Check RegisterFault)
base_checks subjects tables i t =
    refuse RegisterFault.BadNumber (IssuerNumber i × TableNumber t → ⊥) ∷
    refuse RegisterFault.Stranger (StrangeIssuer subjects i) ∷
    refuse RegisterFault.NotTheirs (NoMark subjects i) ∷
    refuse RegisterFault.Taken (Stands tables t) ∷
    []

unfoldable pub view_checks : Subjects → Tables → ℕ → ℕ → List ℕ → List (Check RegisterFault)
view_checks subjects tables i t ds =
    refuse RegisterFault.BadNumber (IssuerNumber i × TableNumber t × AllByRecursion TableNumber ds → ⊥) ∷
    refuse RegisterFault.Stranger (StrangeIssuer subjects i) ∷
    refuse RegisterFault.NoTable (AllByRecursion (Stands tables) ds → ⊥) ∷
    refuse RegisterFault.NotTheirs (NoMark subjects i) ∷
    refuse RegisterFault.Taken (Stands tables t) ∷
    refuse RegisterFault.MakeUp (WellMade tables ds → ⊥) ∷
    []

unfoldable pub drop_checks : Subjects → Tables → ℕ → ℕ → List (Check RegisterFault)
drop_checks subjects tables i t =
    refuse RegisterFault.BadNumber (IssuerNumber i × TableNumber t → ⊥) ∷
    refuse RegisterFault.Stranger (StrangeIssuer subjects i) ∷
    refuse RegisterFault.NoTable (Stands tables t → ⊥) ∷
    refuse RegisterFault.NotTheirs ((i ≡ 0) ⊎ (Owns tables i t → ⊥)) ∷
    refuse RegisterFault.BuiltUpon ((v : ℕ) × Names tables v t) ∷
    []

module _ (lent : Lent) (h : History) where
  unfoldable pub admit_checks : ℕ → ℕ → ℕ → List (Check RegisterFault)
  admit_checks i m g =
      refuse RegisterFault.BadNumber (IssuerNumber i × SubjectNumber m × SubjectNumber g → ⊥) ∷
      refuse RegisterFault.Stranger (StrangeIssuer h.subjects i ⊎ ((Registered h.subjects m → ⊥) ⊎ (IsGroup h.subjects g → ⊥))) ∷
      refuse RegisterFault.NotTheirs (i ≢ 0) ∷
      refuse (RegisterFault.Roll RollFault.Taken) (In (pair m g) h.pairs) ∷
      refuse (RegisterFault.Roll RollFault.Loop) (Within h.pairs g m) ∷
      refuse (RegisterFault.Roll RollFault.Full) (length h.pairs ≡ lent.roll_ceiling) ∷
      refuse RegisterFault.Clash (Clashing (pair m g ∷ h.pairs) h.tables h.entries) ∷
      []

  unfoldable pub remove_checks : ℕ → ℕ → ℕ → List (Check RegisterFault)
  remove_checks i m g =
      refuse RegisterFault.BadNumber (IssuerNumber i × SubjectNumber m × SubjectNumber g → ⊥) ∷
      refuse RegisterFault.Stranger (StrangeIssuer h.subjects i ⊎ ((Registered h.subjects m → ⊥) ⊎ (IsGroup h.subjects g → ⊥))) ∷
      refuse RegisterFault.NotTheirs (i ≢ 0) ∷
      refuse (RegisterFault.Roll RollFault.Absent) (In (pair m g) h.pairs → ⊥) ∷
      []

  -- Recipient: what the subject of such an entry must be registered as; InRange: the numbers of the right
  unfoldable pub grant_checks : (Subjects → ℕ → Type 0) → Type 0 → ℕ → ℕ → ℕ → List (Check RegisterFault) → List (Check RegisterFault)
  grant_checks Recipient InRange i s t more =
      refuse RegisterFault.BadNumber (IssuerNumber i × SubjectNumber s × TableNumber t × InRange → ⊥) ∷
      refuse RegisterFault.Stranger (StrangeIssuer h.subjects i ⊎ (Recipient h.subjects s → ⊥)) ∷
      refuse RegisterFault.NoTable (Stands h.tables t → ⊥) ∷
      refuse RegisterFault.NotTheirs (i ≡ 0) ∷
      more

  unfoldable pub give_checks : ℕ → ℕ → ℕ → ℕ → ℕ → ℕ → List (Check RegisterFault)
  give_checks i s p sign t strength =
      let e : Entry = access_entry i s p sign t strength in
      grant_checks Registered (PrivilegeNumber p × FlagNumber sign × FlagNumber strength) i s t (
      refuse (RegisterFault.Book BookFault.Taken) (In e h.entries) ∷
      refuse RegisterFault.NoMandate (Supported h.tables h.entries e → ⊥) ∷
      refuse RegisterFault.ViewDenied ((sign ≡ 1) × IsView h.tables t) ∷
      refuse (RegisterFault.Book BookFault.Full) (length h.entries ≡ lent.book_ceiling) ∷
      refuse RegisterFault.Clash (Clashing h.pairs h.tables (e ∷ h.entries)) ∷
      [])

  unfoldable pub lend_checks : ℕ → ℕ → ℕ → ℕ → ℕ → ℕ → List (Check RegisterFault)
  lend_checks i s p t kind rank =
      let e : Entry = admin_entry i s p t kind rank in
      grant_checks IsPerson (PrivilegeNumber p × FlagNumber kind × FlagNumber rank) i s t (
      refuse (RegisterFault.Book BookFault.Taken) (In e h.entries) ∷
      refuse RegisterFault.NoMandate (Supported h.tables h.entries e → ⊥) ∷
      refuse (RegisterFault.Book BookFault.Full) (length h.entries ≡ lent.book_ceiling) ∷
      [])

  -- slate and list first, then as for the grant, and the entry has to stand
  unfoldable pub revoke_checks : (Subjects → ℕ → Type 0) → Type 0 → ℕ → ℕ → ℕ → Entry → List (Check RegisterFault)
  revoke_checks Recipient InRange i s t e =
      refuse RegisterFault.ShortSlate (lent.slate < 4096) ∷
      refuse RegisterFault.ShortList (lent.list < length h.entries) ∷
      grant_checks Recipient InRange i s t (refuse (RegisterFault.Book BookFault.Absent) (In e h.entries → ⊥) ∷ [])

  unfoldable pub may_checks : ℕ → ℕ → ℕ → List (Check RegisterFault)
  may_checks u p t =
      refuse RegisterFault.ShortSlate (lent.slate < 4096) ∷
      refuse RegisterFault.BadNumber (SubjectNumber u × PrivilegeNumber p × TableNumber t → ⊥) ∷
      refuse RegisterFault.Stranger (IsPerson h.subjects u → ⊥) ∷
      refuse RegisterFault.NoTable (Stands h.tables t → ⊥) ∷
      []

  -- the register's list for a command
  unfoldable pub checks : Command → List (Check RegisterFault)
  checks (Command.User n c) = user_checks h.subjects n c
  checks (Command.Group n) = group_checks h.subjects n
  checks Command.Open = open_checks h.subjects
  checks Command.Close = []
  checks (Command.Admit i m g) = admit_checks i m g
  checks (Command.Remove i m g) = remove_checks i m g
  checks (Command.Base i t) = base_checks h.subjects h.tables i t
  checks (Command.View i t d) = view_checks h.subjects h.tables i t (tables_in d)
  checks (Command.Drop i t) = drop_checks h.subjects h.tables i t
  checks (Command.Give i s p sign t strength) = give_checks i s p sign t strength
  checks (Command.Ungive i s p sign t strength) = revoke_checks Registered (PrivilegeNumber p × FlagNumber sign × FlagNumber strength) i s t (access_entry i s p sign t strength)
  checks (Command.Lend i s p t kind rank) = lend_checks i s p t kind rank
  checks (Command.Unlend i s p t kind rank) = revoke_checks IsPerson (PrivilegeNumber p × FlagNumber kind × FlagNumber rank) i s t (admin_entry i s p t kind rank)
  checks (Command.May u p t) = may_checks u p t

  -- a word out of turn is refused before anything else
  unfoldable pub sheet_checks : State → Command → List (Check SheetFault)
  sheet_checks state c = refuse SheetFault.OutOfTurn (Takes state c → ⊥) ∷ map (λ (k : Check RegisterFault). refuse (SheetFault.Register k.gives) k.when) (checks c)
