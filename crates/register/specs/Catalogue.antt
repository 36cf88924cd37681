-- What a catalogue means, and how a call changes it.
-- subjects_in, tables_in: the meaning. Enrolled: one subject more and nothing else. Tabled: one table more and nothing else.
-- making_checks, Allowed: what is refused of base tables and views alike, and what holds where nothing of it is.
-- Fitting: where a table may be put.
use Rattle.std.specs.Prelude.{◌≡◌, ℕ, ◌<◌, ◌≤◌, true, List, take, None, Option, slice_index_or}
use Rattle.std.specs.List.{AllByRecursion}
use Rattle.register.specs.declared.catalogue.Catalogue.{Catalogue}
use Rattle.register.specs.Rows.{subjects_of, tables_of, is_person, names_of, stand, rise, level_over, BlankPast}
use Rattle.rights.specs.declared.faults.RegisterFault.{RegisterFault}
use Rattle.rights.specs.declared.records.Subject.{Subject}
use Rattle.rights.specs.declared.records.TableRecord.{TableRecord}
use Rattle.rights.specs.Checks.{Check}
use Rattle.rights.specs.Numbers.{TableNumber}
use Rattle.rights.specs.Refusals.{view_checks}
use Rattle.rights.specs.Subjects.{Subjects, enrolled}
use Rattle.rights.specs.Tables.{Table, Tables, Stands, made}

abbrev pub subjects_in : Catalogue → Subjects
subjects_in c = subjects_of c.subjects

abbrev pub tables_in : Catalogue → Tables
tables_in c = tables_of c.tables

-- the record that stands under t
abbrev pub record_at : Catalogue → ℕ → Option TableRecord
record_at c t = slice_index_or c.tables t None

-- c' is c with subject r under n
pub record Enrolled (n : ℕ) (r : Subject) (c c' : Catalogue) : Type 0 where
  pub subjects : subjects_in c' ≡ enrolled n r (subjects_in c)
  pub tables : tables_in c' ≡ tables_in c

-- c' is c with table r under t
pub record Tabled (t : ℕ) (r : Table) (c c' : Catalogue) : Type 0 where
  pub subjects : subjects_in c' ≡ subjects_in c
  pub tables : tables_in c' ≡ made t r (tables_in c)

-- what is refused of a view before its make-up, and with no tables named all that is refused of a base table
abbrev pub making_checks : Subjects → Tables → ℕ → ℕ → List ℕ → List (Check RegisterFault)
making_checks subjects tables i t ds = take 5 (view_checks subjects tables i t ds)

-- i is a person, these tables stand, and nothing stands under t
pub record Allowed (i t : ℕ) (ds : List ℕ) (c : Catalogue) : Type 0 where
  pub within : t < 128
  pub free : record_at c t ≡ None
  pub owned : is_person (slice_index_or c.subjects i None) ≡ true
  pub tables : AllByRecursion TableNumber ds
  pub standing : AllByRecursion (Stands (tables_in c)) ds

-- record r may stand under t: nothing stands there, its owner is a person, and it names at most 8 standing tables,
-- rising and with 0 past the last, of a level below its own, which is at most 7
pub record Fitting (t : ℕ) (r : TableRecord) (c : Catalogue) : Type 0 where
  pub within : t < 128
  pub free : record_at c t ≡ None
  pub owned : is_person (slice_index_or c.subjects r.owner None) ≡ true
  pub few : r.count ≤ 8
  pub blank : BlankPast r
  pub standing : stand c.tables (names_of r) ≡ true
  pub rising : rise (names_of r) ≡ true
  pub levelled : r.level ≡ level_over c.tables (names_of r)
  pub low : r.level ≤ 7
