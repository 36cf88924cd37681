-- The history of a sitting: the subjects, pairs, tables and entries that its accepted commands lead to.
-- Becomes: how each accepted command changes it. What is refused, and every question, changes nothing.
use Rattle.std.specs.Prelude.{◌≡◌, List, [], ◌≢◌}
use Rattle.rights.specs.declared.commands.Command.{Command}
use Rattle.rights.specs.declared.entries.Entry.{Entry}
use Rattle.rights.specs.declared.entries.Pair.{Pair}
use Rattle.rights.specs.declared.records.Subject.{Subject}
use Rattle.rights.specs.Chain.{Revoked}
use Rattle.rights.specs.Entries.{Before}
use Rattle.rights.specs.Lists.{Placed, Parted}
use Rattle.rights.specs.Pairs.{pair, Before as PairBefore}
use Rattle.rights.specs.Read.{mark_of, access_entry, admin_entry, tables_in}
use Rattle.rights.specs.Subjects.{Subjects, no_subjects, enrolled}
use Rattle.rights.specs.Tables.{Tables, no_tables, made, unmade}

pub record History : Type 0 where
  pub subjects : Subjects
  pub pairs : List Pair
  pub tables : Tables
  pub entries : List Entry

abbrev pub empty_history : History
empty_history = record { subjects = no_subjects; pairs = []; tables = no_tables; entries = [] }

abbrev pub with_subjects : Subjects → History → History
with_subjects subjects h = record { subjects = subjects; pairs = h.pairs; tables = h.tables; entries = h.entries }

abbrev pub with_pairs : List Pair → History → History
with_pairs pairs h = record { subjects = h.subjects; pairs = pairs; tables = h.tables; entries = h.entries }

abbrev pub with_tables : Tables → History → History
with_tables tables h = record { subjects = h.subjects; pairs = h.pairs; tables = tables; entries = h.entries }

abbrev pub with_entries : List Entry → History → History
with_entries entries h = record { subjects = h.subjects; pairs = h.pairs; tables = h.tables; entries = entries }

-- e is added
abbrev pub Granting : Entry → History → History → Type 0
Granting e h h' = (es : List Entry) × Placed Before e h.entries es × (h' ≡ with_entries es h)

-- e is struck, then every entry without a chain in what is left
abbrev pub Revoking : Entry → History → List Entry → History → Type 0
Revoking e h struck h' = (kept : List Entry) × Revoked h.tables e h.entries kept struck × (h' ≡ with_entries kept h)

-- an accepted command takes history h to h'; a revocation strikes these entries, in their order
unfoldable pub Becomes : History → Command → List Entry → History → Type 0
Becomes h (Command.User n c) struck h' = (struck ≡ []) × (h' ≡ with_subjects (enrolled n (Subject.Person (mark_of c)) h.subjects) h)
Becomes h (Command.Group n) struck h' = (struck ≡ []) × (h' ≡ with_subjects (enrolled n Subject.Group h.subjects) h)
Becomes h Command.Open struck h' = (struck ≡ []) × (h' ≡ h)
Becomes h Command.Close struck h' = (struck ≡ []) × (h' ≡ h)
Becomes h (Command.Admit i m g) struck h' = (struck ≡ []) × ((ps : List Pair) × Placed PairBefore (pair m g) h.pairs ps × (h' ≡ with_pairs ps h))
Becomes h (Command.Remove i m g) struck h' = (struck ≡ []) × ((ps : List Pair) × Placed PairBefore (pair m g) ps h.pairs × (h' ≡ with_pairs ps h))
Becomes h (Command.Base i t) struck h' = (struck ≡ []) × (h' ≡ with_tables (made t (record { owner = i; names = [] }) h.tables) h)
Becomes h (Command.View i t d) struck h' = (struck ≡ []) × (h' ≡ with_tables (made t (record { owner = i; names = tables_in d }) h.tables) h)
Becomes h (Command.Drop i t) struck h' = (struck ≡ []) × ((kept : List Entry) × (out : List Entry) × Parted (λ (e : Entry). e.table ≢ t) h.entries kept out × (h' ≡ with_tables (unmade t h.tables) (with_entries kept h)))
Becomes h (Command.Give i s p sign t strength) struck h' = (struck ≡ []) × Granting (access_entry i s p sign t strength) h h'
Becomes h (Command.Ungive i s p sign t strength) struck h' = Revoking (access_entry i s p sign t strength) h struck h'
Becomes h (Command.Lend i s p t kind rank) struck h' = (struck ≡ []) × Granting (admin_entry i s p t kind rank) h h'
Becomes h (Command.Unlend i s p t kind rank) struck h' = Revoking (admin_entry i s p t kind rank) h struck h'
Becomes h (Command.May u p t) struck h' = (struck ≡ []) × (h' ≡ h)
