-- The laws of cover, chains and runs, over any tables and entries.
-- MandateLaws: cover and chains. RunLaws: commands and their outcomes. Upheld: an entry with a chain in a list.
use Rattle.std.specs.Prelude.{◌≡◌, ℕ, ◌⊎◌, ◌↔◌, List, [], ◌∷◌, Some, None, ◌≢◌}
use Rattle.rights.specs.declared.commands.Answer.{Answer}
use Rattle.rights.specs.declared.commands.Command.{Command}
use Rattle.rights.specs.declared.commands.State.{State}
use Rattle.rights.specs.declared.entries.Entry.{Entry}
use Rattle.rights.specs.declared.faults.SheetFault.{SheetFault}
use Rattle.rights.specs.declared.vocabulary.Kind.{Kind}
use Rattle.rights.specs.declared.vocabulary.Privilege.{Privilege}
use Rattle.rights.specs.declared.vocabulary.Rank.{Rank}
use Rattle.rights.specs.Chain.{HasChain, Revoked}
use Rattle.rights.specs.Checks.{First}
use Rattle.rights.specs.Cover.{Covers, Supported}
use Rattle.rights.specs.History.{History, empty_history}
use Rattle.rights.specs.Lists.{In, Inside, Parted}
use Rattle.rights.specs.Refusals.{Lent, sheet_checks}
use Rattle.rights.specs.Runs.{Step, Call, Run}
use Rattle.rights.specs.Tables.{Tables, unmade, Names, Levelled, Extends}

-- e has a chain among these entries
abbrev pub Upheld : Tables → List Entry → Entry → Type 0
Upheld tables entries e = HasChain tables (λ f. In f entries) e

-- the more entries, the more is covered
abbrev pub CoverGrows : Type 0
CoverGrows = (tables : Tables) (es fs : List Entry) → Inside es fs → (x : ℕ) (k : Kind) (r : Rank) (p : Privilege) (t : ℕ) → Covers tables es x k r p t → Covers tables fs x k r p t

-- one can tell whether a person has a cover
abbrev pub CoverTold : Type 0
CoverTold = (tables : Tables) (es : List Entry) → Levelled tables → (x : ℕ) (k : Kind) (r : Rank) (p : Privilege) (t : ℕ) → Covers tables es x k r p t ⊎ (Covers tables es x k r p t → ⊥)

-- the more entries stand, the more have a chain
abbrev pub ChainGrows : Type 0
ChainGrows = (tables : Tables) (es fs : List Entry) → Inside es fs → (e : Entry) → Upheld tables es e → Upheld tables fs e

-- one can tell whether an entry has a chain
abbrev pub ChainTold : Type 0
ChainTold = (tables : Tables) (es : List Entry) → Levelled tables → (e : Entry) → Upheld tables es e ⊎ (Upheld tables es e → ⊥)

-- the survivors of a list are its entries with a chain
abbrev pub Survivors : Tables → List Entry → List Entry → Type 0
Survivors tables entries left = (e : Entry) → In e left ↔ Upheld tables entries e

-- they are just those standing entries that they themselves support
abbrev pub SurvivorsFixed : Type 0
SurvivorsFixed = (tables : Tables) (entries left : List Entry) → Survivors tables entries left → (e : Entry) → In e left ↔ (In e entries × Supported tables left e)

-- no round of marking is closed before it has marked them all
abbrev pub SurvivorsLeast : Type 0
SurvivorsLeast = (tables : Tables) (entries marked : List Entry) → ((e : Entry) → In e entries → Supported tables marked e → In e marked) → (e : Entry) → Upheld tables entries e → In e marked

-- a revocation keeps and strikes in one way, and in some way; it strikes the named entry
abbrev pub RevokedOnce : Type 0
RevokedOnce =
    (tables : Tables) (e : Entry) (entries : List Entry) →
    ((kept struck kept' struck' : List Entry) → Revoked tables e entries kept struck → Revoked tables e entries kept' struck' → (kept ≡ kept') × (struck ≡ struck')) ×
    (Levelled tables → (kept : List Entry) × (struck : List Entry) × Revoked tables e entries kept struck) ×
    ((kept struck : List Entry) → Revoked tables e entries kept struck → In e kept → ⊥)

-- every entry of the list has a chain in it
abbrev pub AllUpheld : Tables → List Entry → Type 0
AllUpheld tables entries = (e : Entry) → In e entries → Upheld tables entries e

-- what a revocation keeps has chains in what is kept, and a supported grant leaves every entry with one
abbrev pub UpheldStays : Type 0
UpheldStays =
    (tables : Tables) (e : Entry) (entries : List Entry) →
    ((kept struck : List Entry) → Revoked tables e entries kept struck → AllUpheld tables kept) ×
    (AllUpheld tables entries → Supported tables entries e → AllUpheld tables (e ∷ entries))

-- so do the tables that are made, and one that is dropped leaves the entries on the others with theirs
abbrev pub UpheldTables : Type 0
UpheldTables =
    (tables : Tables) (entries : List Entry) → AllUpheld tables entries →
    ((more : Tables) → Extends tables more → AllUpheld more entries) ×
    ((t : ℕ) (kept out : List Entry) → ((v : ℕ) → Names tables v t → ⊥) → Parted (λ (e : Entry). e.table ≢ t) entries kept out → AllUpheld (unmade t tables) kept)

pub record MandateLaws : Type 0 where
  pub cover_grows : CoverGrows
  pub cover_told : CoverTold
  pub chain_grows : ChainGrows
  pub chain_told : ChainTold
  pub survivors_fixed : SurvivorsFixed
  pub survivors_least : SurvivorsLeast
  pub revoked_once : RevokedOnce
  pub upheld_stays : UpheldStays
  pub upheld_tables : UpheldTables

-- a command has one answer, strikes one list, and leads to one state and history
abbrev pub OneOutcome : Type 0
OneOutcome =
    (lent : Lent) (state : State) (h : History) (c : Command) (k k' : List Entry) (a a' : Answer) (s s' : State) (g g' : History) →
    Step lent state h c k a s g → Step lent state h c k' a' s' g' → (k ≡ k') × (a ≡ a') × (s ≡ s') × (g ≡ g')

-- it is refused by f exactly where f is the first refusal that applies, and then nothing changes
abbrev pub RefusedFirst : Type 0
RefusedFirst =
    (lent : Lent) (state : State) (h : History) (c : Command) (k : List Entry) (a : Answer) (s : State) (g : History) (f : SheetFault) →
    Step lent state h c k a s g →
    ((a ≡ Answer.Refused f) ↔ First (sheet_checks lent h state c) (Some f)) × (a ≡ Answer.Refused f → (k ≡ []) × (s ≡ state) × (g ≡ h))

-- it is carried out exactly where none applies
abbrev pub AcceptedRest : Type 0
AcceptedRest =
    (lent : Lent) (state : State) (h : History) (c : Command) (k : List Entry) (a : Answer) (s : State) (g : History) →
    Step lent state h c k a s g → ((f : SheetFault) → a ≢ Answer.Refused f) ↔ First (sheet_checks lent h state c) None

-- every list of commands has a run from the empty history, whatever the calls were lent
abbrev pub RunFound : Type 0
RunFound = (cs : List Call) → (struck : List (List Entry)) × (answers : List Answer) × (state : State) × (h : History) × Run State.SettingUp empty_history cs struck answers state h

-- and no other
abbrev pub RunOnce : Type 0
RunOnce =
    (state : State) (h : History) (cs : List Call) (ks ks' : List (List Entry)) (l l' : List Answer) (s s' : State) (g g' : History) →
    Run state h cs ks l s g → Run state h cs ks' l' s' g' → (ks ≡ ks') × (l ≡ l') × (s ≡ s') × (g ≡ g')

pub record RunLaws : Type 0 where
  pub one_outcome : OneOutcome
  pub refused_first : RefusedFirst
  pub accepted_rest : AcceptedRest
  pub run_found : RunFound
  pub run_once : RunOnce
