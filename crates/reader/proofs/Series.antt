-- The numbers of a line, one after the other. Assumes nothing.
use Rattle.std.proofs.Common.{◌≡◌, ℕ, ◌<◌, ◌≤◌, List, [], ◌∷◌, ◌++◌, map, length, None, decimal, sym, ap, ◌∙◌, subst, arith}
use Rattle.std.specs.List.{AllByRecursion}
use Rattle.std.proofs.ByRecursion.{All-push}
use Rattle.std.proofs.lemmas.List.{append-nil, append_assoc, length-append, length-map, map_push, length_push}
use Rattle.rights.proofs.Checks.{none_some}
use Rattle.reader.specs.Exactly.{Exactly}
use Rattle.reader.specs.Reading.{Numbered}
use Rattle.reader.proofs.Figures.{Reads}

-- the first of the parts all are the numbers ns, and rest is what is left
pub record Sofar (all : List (List ℕ)) (ns : List ℕ) (rest : List (List ℕ)) : Type 0 where
  pub split : all ≡ map decimal ns ++ rest
  pub short : AllByRecursion (λ n. n ≤ 999) ns
  pub few : length ns ≤ 16

module _ {all : List (List ℕ)} {ns : List ℕ} where
  pub one_more : {ms : List ℕ} {n : ℕ} {rest more : List (List ℕ)} → ms ≡ ns ++ n ∷ [] → (part : List ℕ) → Sofar all ns rest → rest ≡ part ∷ more → Reads part n → length ns < 16 → Sofar all ms more
  one_more {ms} {n} {rest} {more} pushed part h next reads room = record {
    split = h.split ∙ ap (λ ps. map decimal ns ++ ps) (next ∙ ap (λ p. p ∷ more) (sym reads.1)) ∙ sym (append_assoc (map decimal ns) (decimal n ∷ []) more) ∙ ap (λ ps. ps ++ more) (sym (ap (map decimal) pushed ∙ map_push decimal ns n));
    short = subst (AllByRecursion (λ n. n ≤ 999)) (sym pushed) (All-push (λ n. n ≤ 999) ns n h.short reads.0);
    few = omega (arith, ap length pushed, length_push ns n);
  }

  pub done : {rest : List (List ℕ)} → Sofar all ns rest → rest ≡ [] → Numbered all ns
  done h none = record {
    digits = sym (append-nil _) ∙ ap (λ ps. map decimal ns ++ ps) (sym none) ∙ sym h.split;
    short = h.short;
    few = h.few;
  }

  -- a part that is no number stands among the parts of no numbers
  pub no_number : {rest more : List (List ℕ)} (part : List ℕ) → Sofar all ns rest → rest ≡ part ∷ more → Exactly None (Reads part) → (ms : List ℕ) → Numbered all ms → ⊥
  no_number {more = more} part h next none ms numbered =
      let (n, reads) = among (map decimal ns) part more ms (numbered.digits ∙ h.split ∙ ap (λ ps. map decimal ns ++ ps) next) numbered.short in
      none_some n ((none n).1 reads)
    where
      among : (ps : List (List ℕ)) (p : List ℕ) (qs : List (List ℕ)) (ns : List ℕ) → map decimal ns ≡ ps ++ p ∷ qs → AllByRecursion (λ n. n ≤ 999) ns → (n : ℕ) × Reads p n
      among ps p qs [] e a = absurd (omega (arith, ap length e, length-append ps (p ∷ qs)))
      among [] p qs (n ∷ ns) e a = (n, (a.0, (cc)))
      among (q ∷ ps) p qs (n ∷ ns) e a = among ps p qs ns (cc) a.1

  pub too_many : {rest more : List (List ℕ)} (part : List ℕ) → Sofar all ns rest → rest ≡ part ∷ more → length ns ≡ 16 → (ms : List ℕ) → Numbered all ms → ⊥
  too_many {more = more} part h next full ms numbered =
      let front = map decimal ns in
      let long = ap length (numbered.digits ∙ h.split ∙ ap (λ ps. front ++ ps) next) ∙ length-append front (part ∷ more) in
      omega (arith, long, length-map ms decimal, length-map ns decimal, numbered.few)
