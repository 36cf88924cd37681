-- What a view names is known by its tables, and what a list of tables gives names them. Assumes nothing.
use Rattle.std.proofs.Common.{◌≡◌, ℕ, ◌-◌, ◌<◌, ◌≤◌, List, ◌++◌, length, drop, replicate, Ok, Err, Option, Result, MatchResult, subst, sym, refl, ap, ◌∙◌, arith}
use mathlib.Core.HLevel.{is_prop→PathP}
use native.Mathlib.Bridge.{le_prop}
use Rattle.std.specs.Result.{result_ok}
use Rattle.std.proofs.lemmas.List.{length-take-le, take-append-drop, drop_at, length-append, length-replicate}
use Rattle.rights.specs.declared.commands.Command.{Command}
use Rattle.rights.specs.declared.commands.Named.{Named}
use Rattle.rights.specs.Read.{tables_in}
use Rattle.reader.specs.declared.words.Word.{Word}
use Rattle.reader.specs.Exactly.{Exactly}
use Rattle.reader.specs.Spelling.{word, numbers, Padded, PaddedView}
use Rattle.reader.proofs.Spelled.{exactly_some, exactly_none}

-- the tables of a view are known by those that it names
named_path : (d e : Named) → d.count ≡ e.count → d.tables ≡ e.tables → d ≡ e
named_path d e p q = λ i. record { count = p i; tables = q i; few = is_prop→PathP (λ j. p j ≤ 14) (λ j. le_prop) d.few e.few i }

count_is : (d : Named) → Padded d → length (tables_in d) ≡ d.count
count_is d p = length-take-le d.count d.tables (omega (arith, d.few, p.whole))

list_is : (d : Named) → Padded d → d.tables ≡ tables_in d ++ replicate (14 - length (tables_in d)) 0
list_is d p =
    sym (take-append-drop d.count d.tables) ∙ ap (λ r. tables_in d ++ r) (p.unused ∙ ap (λ n. replicate (14 - n) 0) (sym (count_is d p)))

pub same_named : (d e : Named) → tables_in d ≡ tables_in e → Padded d → Padded e → d ≡ e
same_named d e same p q =
    named_path d e (sym (count_is d p) ∙ ap length same ∙ count_is e q)
    (list_is d p ∙ ap (λ ts. ts ++ replicate (14 - length ts) 0) same ∙ sym (list_is e q))

-- the commands with a given word and given numbers
abbrev pub Made : Word → List ℕ → Command → Type 0
Made w ns c = (word c ≡ w) × (numbers c ≡ ns) × PaddedView c

-- a view's list is read as the one that names it: its first places hold the tables, and the others 0
module _ (list : List ℕ) where
  abbrev Names : Named → Type 0
  Names x = (tables_in x ≡ list) × Padded x

  abbrev Gives : {E : Type 0} → Result Named E → Type 0
  Gives r = MatchResult r (λ d. (tables_in d ≡ list) × (d.tables ≡ list ++ replicate (14 - length list) 0) × (d.count ≡ length list)) (λ e. 14 < length list)

  given : {E : Type 0} (r : Result Named E) → Gives r → Exactly (result_ok r) Names
  given (Ok d) h =
      let short = d.few in
      let padded : Padded d = record {
        whole = ap length h.1 ∙ length-append list _ ∙ omega (arith, length-replicate {A = ℕ} (14 - length list) 0, h.2);
        unused = (λ i. drop (h.2 i) (h.1 i)) ∙ drop_at list (replicate (14 - length list) 0) (length list) refl ∙ ap (λ n. replicate (14 - n) 0) (sym h.2);
      } in
      exactly_some Names d (h.0, padded) (λ x g. same_named d x (h.0 ∙ sym g.0) padded g.1)
  given (Err e) long = exactly_none Names (λ x g. omega (arith, ap length g.0, count_is x g.1, x.few, long))

  pub named_read : {E : Type 0} (r : Result Named E) (o : Option Named) → o ≡ result_ok r → Gives r → Exactly o Names
  named_read r o e h = subst (λ p. Exactly p Names) (sym e) (given r h)
