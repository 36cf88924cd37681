-- The laws of the rules of access, over any pairs, tables and entries.
-- AccessLaws: all of them. SameBelow: two states that agree at a table and beneath it. MoreOf: a state that grew.
use Rattle.std.specs.Prelude.{◌≡◌, ℕ, ◌<◌, ◌⊎◌, ◌↔◌, List, None, ◌≢◌}
use Rattle.rights.specs.declared.commands.Answer.{Answer}
use Rattle.rights.specs.declared.commands.Ground.{Ground}
use Rattle.rights.specs.declared.entries.Entry.{Entry}
use Rattle.rights.specs.declared.entries.Pair.{Pair}
use Rattle.rights.specs.declared.vocabulary.Privilege.{Privilege}
use Rattle.rights.specs.Access.{Answers, Denied, Granted}
use Rattle.rights.specs.Clash.{Clash, Clashing}
use Rattle.rights.specs.Holding.{StrongPlus, StrongMinus, MinusOnBases}
use Rattle.rights.specs.Lists.{In}
use Rattle.rights.specs.Tables.{Table, Tables, made, unmade, Names, Beneath, AtOrBeneath, Level, Levelled, Extends}

-- no question has two answers, and where every table has a level each has one
abbrev pub OneAnswer : Type 0
OneAnswer = (pairs : List Pair) (tables : Tables) (entries : List Entry) (u : ℕ) (p : Privilege) (t : ℕ) →
    ((a b : Answer) → Answers pairs tables entries u p t a → Answers pairs tables entries u p t b → a ≡ b) ×
    (Levelled tables → (a : Answer) × Answers pairs tables entries u p t a)

-- the rules give yes exactly where the answer is a yes
abbrev pub YesGranted : Type 0
YesGranted = (pairs : List Pair) (tables : Tables) (entries : List Entry) (u : ℕ) (p : Privilege) (t : ℕ) →
    Granted pairs tables entries u p t ↔ ((g : Ground) × Answers pairs tables entries u p t (Answer.Yes g))

-- two states have the same tables and the same entries at t and beneath it
pub record SameBelow (tables : Tables) (entries : List Entry) (tables' : Tables) (entries' : List Entry) (t : ℕ) : Type 0 where
  pub same_table : (b : ℕ) → AtOrBeneath tables b t → tables b ≡ tables' b
  pub same_entry : (e : Entry) → AtOrBeneath tables e.table t → In e entries ↔ In e entries'

-- an answer about t reads only the tables and the entries at t and beneath it
abbrev pub ReadsBelow : Type 0
ReadsBelow = (pairs : List Pair) (tables tables' : Tables) (entries entries' : List Entry) (t : ℕ) → SameBelow tables entries tables' entries' t →
    (u : ℕ) (p : Privilege) (a : Answer) → Answers pairs tables entries u p t a ↔ Answers pairs tables' entries' u p t a

-- where minuses stand on base tables only, a strong minus anywhere beneath denies,
-- and a clash is that a strong plus and a denial meet
abbrev pub ClashDenies : Type 0
ClashDenies = (pairs : List Pair) (tables : Tables) (entries : List Entry) → MinusOnBases tables entries → (s : ℕ) →
    ((p : Privilege) (t : ℕ) → Denied pairs tables entries s p t ↔ ((b : ℕ) × AtOrBeneath tables b t × StrongMinus pairs entries s p b)) ×
    (Clash pairs tables entries s ↔ ((p : Privilege) × (t : ℕ) × StrongPlus pairs tables entries s p t × Denied pairs tables entries s p t))

-- the second state has every pair, table and entry of the first
pub record MoreOf (pairs : List Pair) (tables : Tables) (entries : List Entry) (pairs' : List Pair) (tables' : Tables) (entries' : List Entry) : Type 0 where
  pub pairs_stay : (a : Pair) → In a pairs → In a pairs'
  pub tables_stay : Extends tables tables'
  pub entries_stay : (e : Entry) → In e entries → In e entries'

-- where more stands there are no fewer clashes
abbrev pub ClashGrows : Type 0
ClashGrows = (pairs pairs' : List Pair) (tables tables' : Tables) (entries entries' : List Entry) → MoreOf pairs tables entries pairs' tables' entries' →
    (s : ℕ) → Clash pairs tables entries s → Clash pairs' tables' entries' s

-- where more stands a strong yes is still a strong yes, and a strong no still a strong no unless the asker is a clash
abbrev pub StrongStays : Type 0
StrongStays = (pairs pairs' : List Pair) (tables tables' : Tables) (entries entries' : List Entry) → MoreOf pairs tables entries pairs' tables' entries' →
    (u : ℕ) (p : Privilege) (t : ℕ) →
    (Answers pairs tables entries u p t (Answer.Yes Ground.Strong) → Answers pairs' tables' entries' u p t (Answer.Yes Ground.Strong)) ×
    ((Clash pairs' tables' entries' u → ⊥) → Answers pairs tables entries u p t (Answer.No Ground.Strong) → Answers pairs' tables' entries' u p t (Answer.No Ground.Strong))

-- a table made under a free number, with no entry on it, changes no answer about another and makes no clash
abbrev pub MadeApart : Type 0
MadeApart = (pairs : List Pair) (tables : Tables) (entries : List Entry) (t : ℕ) (r : Table) → Levelled tables → tables t ≡ None → ((e : Entry) → In e entries → e.table ≢ t) →
    ((d : ℕ) → (d ≢ t) → (u : ℕ) (p : Privilege) (a : Answer) → Answers pairs tables entries u p d a ↔ Answers pairs (made t r tables) entries u p d a) ×
    ((s : ℕ) → Clash pairs (made t r tables) entries s → Clash pairs tables entries s)

-- a table that no view names, taken out with the entries on it, changes no answer about another
abbrev pub DroppedApart : Type 0
DroppedApart = (pairs : List Pair) (tables : Tables) (entries entries' : List Entry) (t : ℕ) → ((v : ℕ) → Names tables v t → ⊥) →
    ((e : Entry) → (e.table ≢ t) → In e entries ↔ In e entries') →
    (d : ℕ) → (d ≢ t) → (u : ℕ) (p : Privilege) (a : Answer) → Answers pairs tables entries u p d a ↔ Answers pairs (unmade t tables) entries' u p d a

-- one can tell whether there is a clash
abbrev pub ClashTold : Type 0
ClashTold = (pairs : List Pair) (tables : Tables) (entries : List Entry) → Levelled tables → Clashing pairs tables entries ⊎ (Clashing pairs tables entries → ⊥)

-- a table has one level, and a lower one than what it is beneath; so nothing is beneath itself
abbrev pub LevelsFall : Type 0
LevelsFall = (tables : Tables) (t n : ℕ) → Level tables t n →
    ((m : ℕ) → Level tables t m → n ≡ m) ×
    ((b : ℕ) → Beneath tables b t → (k : ℕ) × Level tables b k × (k < n)) ×
    (Beneath tables t t → ⊥)

pub record AccessLaws : Type 0 where
  pub one_answer : OneAnswer
  pub yes_granted : YesGranted
  pub reads_below : ReadsBelow
  pub clash_denies : ClashDenies
  pub clash_grows : ClashGrows
  pub clash_told : ClashTold
  pub strong_stays : StrongStays
  pub made_apart : MadeApart
  pub dropped_apart : DroppedApart
  pub levels_fall : LevelsFall
