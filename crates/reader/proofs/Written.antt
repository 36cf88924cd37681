-- Which line a command is written as, and which command a line is read as. Assumes nothing.
use Rattle.std.proofs.Common.{◌≡◌, ℕ, ◌+◌, ◌*◌, ◌<◌, ◌≤◌, cond, eqb, List, [], ◌∷◌, ◌++◌, map, length, None, decimal, Option, sym, refl, ap, ◌∙◌, subst, ⊎_elim, arith, length-take}
use Rattle.std.specs.List.{AllByRecursion}
use Rattle.std.proofs.lemmas.Fmt.{length-decimal-le, decimal_injective}
use Rattle.std.proofs.ByRecursion.{All-from_get_or}
use Rattle.std.proofs.lemmas.List.{append-nil, length-append}
use Rattle.std.proofs.lemmas.Bool.{cases_eq, eq-eqb, ne_eqb, cond-true, cond-false}
use Rattle.rights.specs.declared.commands.Command.{Command}
use Rattle.rights.proofs.Checks.{none_some}
use Rattle.reader.specs.declared.words.Word.{Word}
use Rattle.reader.specs.Exactly.{Exactly}
use Rattle.reader.specs.Lines.{Without, onto, parts}
use Rattle.reader.specs.Reading.{Numbered}
use Rattle.reader.specs.Spelling.{word, numbers, spaced, written, Plain}
use Rattle.reader.specs.Words.{text}
use Rattle.reader.proofs.Figures.{figure_at}
use Rattle.reader.proofs.Made.{Made}
use Rattle.reader.proofs.Pieces.{parts_spaced, parts_last}
use Rattle.reader.proofs.Spelled.{exactly_none, same_word}

-- the parts of a line, with the spaces between them again
abbrev glued : List (List ℕ) → List ℕ
glued [] = []
glued (p ∷ ps) = p ++ spaced ps

parts_some : (line : List ℕ) → 0 < length (parts line)
unfolding parts
parts_some [] = omega arith
parts_some (b ∷ bs) = ⊎_elim here there (cases_eq b 32)
  where
    long : (ps : List (List ℕ)) → 0 < length (onto b ps)
    long [] = omega arith
    long (p ∷ ps) = omega arith

    here : b ≡ 32 → 0 < length (cond (eqb b 32) ([] ∷ parts bs) (onto b (parts bs)))
    here e = subst (λ ps. 0 < length ps) (sym (cond-true (eqb b 32) ([] ∷ parts bs) (onto b (parts bs)) (eq-eqb b 32 e))) (omega arith)

    there : (b ≡ 32 → ⊥) → 0 < length (cond (eqb b 32) ([] ∷ parts bs) (onto b (parts bs)))
    there e = subst (λ ps. 0 < length ps) (sym (cond-false (eqb b 32) ([] ∷ parts bs) (onto b (parts bs)) (ne_eqb b 32 e))) (long (parts bs))

spaced_glued : (ps : List (List ℕ)) → 0 < length ps → spaced ps ≡ 32 ∷ glued ps
spaced_glued [] h = absurd (omega arith)
spaced_glued (p ∷ ps) h = refl

onto_glued : (b : ℕ) (ps : List (List ℕ)) → 0 < length ps → glued (onto b ps) ≡ b ∷ glued ps
onto_glued b [] h = absurd (omega arith)
onto_glued b (p ∷ ps) h = refl

glued_parts : (line : List ℕ) → glued (parts line) ≡ line
unfolding parts
glued_parts [] = refl
glued_parts (b ∷ bs) = go (glued_parts bs)
  where
    go : glued (parts bs) ≡ bs → glued (cond (eqb b 32) ([] ∷ parts bs) (onto b (parts bs))) ≡ b ∷ bs
    go same =
        ⊎_elim
        (λ e. ap glued (cond-true (eqb b 32) ([] ∷ parts bs) (onto b (parts bs)) (eq-eqb b 32 e)) ∙ spaced_glued (parts bs) (parts_some bs) ∙ (λ i. sym e i ∷ same i))
        (λ e. ap glued (cond-false (eqb b 32) ([] ∷ parts bs) (onto b (parts bs)) (ne_eqb b 32 e)) ∙ onto_glued b (parts bs) (parts_some bs) ∙ ap (λ l. b ∷ l) same)
        (cases_eq b 32)

parts_glued : (p : List ℕ) (ps : List (List ℕ)) → Without 32 p → AllByRecursion (Without 32) ps → parts (p ++ spaced ps) ≡ p ∷ ps
parts_glued p [] w all = ap parts (append-nil p) ∙ parts_last p w
parts_glued p (q ∷ ps) w all = parts_spaced p (q ++ spaced ps) w ∙ ap (λ qs. p ∷ qs) (parts_glued q ps all.0 all.1)

text_without : (w : Word) → Without 32 (text w)
text_without Word.User = omega arith
text_without Word.Group = omega arith
text_without Word.Open = omega arith
text_without Word.Close = omega arith
text_without Word.Admit = omega arith
text_without Word.Remove = omega arith
text_without Word.Base = omega arith
text_without Word.View = omega arith
text_without Word.Drop = omega arith
text_without Word.Give = omega arith
text_without Word.Ungive = omega arith
text_without Word.Lend = omega arith
text_without Word.Unlend = omega arith
text_without Word.May = omega arith

decimals_without : (ns : List ℕ) → AllByRecursion (λ n. n ≤ 999) ns → AllByRecursion (Without 32) (map decimal ns)
decimals_without [] all = tt
decimals_without (n ∷ ns) all = (
  All-from_get_or (λ b. b ≡ 32 → ⊥) (decimal n) 0 (λ i within e. omega (arith, figure_at n i all.0 within)),
  decimals_without ns all.1,
)

written_parts : (c : Command) → Plain c → parts (written c) ≡ text (word c) ∷ map decimal (numbers c)
unfolding written
written_parts c plain = parts_glued (text (word c)) (map decimal (numbers c)) (text_without (word c)) (decimals_without (numbers c) plain.short)

same_numbers : (ms ns : List ℕ) → AllByRecursion (λ n. n ≤ 999) ms → AllByRecursion (λ n. n ≤ 999) ns → map decimal ms ≡ map decimal ns → ms ≡ ns
same_numbers [] [] a b e = refl
same_numbers [] (n ∷ ns) a b e = absurd (omega (arith, ap length e))
same_numbers (m ∷ ms) [] a b e = absurd (omega (arith, ap length e))
same_numbers (m ∷ ms) (n ∷ ns) a b e =
    let heads : decimal m ≡ decimal n = cc in
    let tails : map decimal ms ≡ map decimal ns = cc in
    let first = decimal_injective m n (omega (arith, a.0)) (omega (arith, b.0)) heads in
    let others = same_numbers ms ns a.1 b.1 tails in
    cc

-- how long a command can be
spaced_long : (ns : List ℕ) → AllByRecursion (λ n. n ≤ 999) ns → length (spaced (map decimal ns)) ≤ 4 * length ns
spaced_long [] all = omega arith
spaced_long (n ∷ ns) all =
    omega (arith, length-append (decimal n) (spaced (map decimal ns)), length-decimal-le 3 n (omega arith) (omega (arith, all.0)) (omega (arith, all.0)), spaced_long ns all.1)

sizes : (c : Command) → (length (numbers c) ≤ 16) × (length (text (word c)) + 4 * length (numbers c) ≤ 68)
sizes (Command.User n c) = omega arith
sizes (Command.Group n) = omega arith
sizes Command.Open = omega arith
sizes Command.Close = omega arith
sizes (Command.Admit i m g) = omega arith
sizes (Command.Remove i m g) = omega arith
sizes (Command.Base i t) = omega arith
sizes (Command.View i t d) = let few = d.few in let long = length-take d.count d.tables in omega arith
sizes (Command.Drop i t) = omega arith
sizes (Command.Give i s p sign t strength) = omega arith
sizes (Command.Ungive i s p sign t strength) = omega arith
sizes (Command.Lend i s p t kind rank) = omega arith
sizes (Command.Unlend i s p t kind rank) = omega arith
sizes (Command.May u p t) = omega arith

pub written_short : (c : Command) → Plain c → length (written c) ≤ 68
unfolding written
written_short c plain = omega (arith, length-append (text (word c)) (spaced (map decimal (numbers c))), spaced_long (numbers c) plain.short, sizes c)

-- c is a command that the line is written as
abbrev pub ReadsAs : List ℕ → Command → Type 0
ReadsAs line c = Plain c × (written c ≡ line)

pub too_long : (line : List ℕ) → 80 < length line → Exactly None (ReadsAs line)
too_long line long = exactly_none (ReadsAs line) (λ c h. omega (arith, ap length h.1, written_short c h.0))

pub no_part : (line : List ℕ) → parts line ≡ [] → Exactly None (ReadsAs line)
no_part line none = exactly_none (ReadsAs line) (λ c h. omega (arith, parts_some line, ap length none))

module _ {line first : List ℕ} {rest : List (List ℕ)} (split : parts line ≡ first ∷ rest) where
  -- the parts of a line that is written so
  read_parts : (c : Command) → ReadsAs line c → (text (word c) ≡ first) × Numbered rest (numbers c)
  read_parts c h =
      let all : text (word c) ∷ map decimal (numbers c) ≡ first ∷ rest = sym (written_parts c h.0) ∙ ap parts h.1 ∙ split in
      let head : text (word c) ≡ first = cc in
      let tail : map decimal (numbers c) ≡ rest = cc in
      (head, record { digits = tail; short = h.0.short; few = (sizes c).0 })

  pub no_word : Exactly None (λ w. text w ≡ first) → Exactly None (ReadsAs line)
  no_word none = exactly_none (ReadsAs line) (λ c h. none_some (word c) ((none (word c)).1 (read_parts c h).0))

  pub no_numbers : ((ns : List ℕ) → Numbered rest ns → ⊥) → Exactly None (ReadsAs line)
  no_numbers none = exactly_none (ReadsAs line) (λ c h. none (numbers c) (read_parts c h).1)

  written_is : (w : Word) (ns : List ℕ) (c : Command) → text w ≡ first → Numbered rest ns → Made w ns c → written c ≡ line
  unfolding written
  written_is w ns c named numbered made =
      (λ i. (ap text made.0 ∙ named) i ++ spaced ((ap (map decimal) made.1 ∙ numbered.digits) i)) ∙ ap glued (sym split) ∙ glued_parts line

  pub reads_as : (w : Word) (ns : List ℕ) (o : Option Command) → text w ≡ first → Numbered rest ns → Exactly o (Made w ns) → Exactly o (ReadsAs line)
  reads_as w ns o named numbered told c = (
    λ e. let made = (told c).0 e in (record { short = subst (AllByRecursion (λ n. n ≤ 999)) (sym made.1) numbered.short; padded = made.2 }, written_is w ns c named numbered made),
    λ h. let is = read_parts c h in (told c).1 (same_word (word c) w (is.0 ∙ sym named), same_numbers (numbers c) ns h.0.short numbered.short (is.1.digits ∙ sym numbered.digits), h.0.padded),
  )

-- where a line is read as no command
pub ruleset unread = (no_part, no_word, no_numbers)
