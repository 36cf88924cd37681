-- Laws of steps and runs: a command has one answer, one list of struck entries, one next state and one next
-- history, and it is refused exactly where a check applies.
use Rattle.std.proofs.Common.{◌≡◌, List, [], Some, None, sym, refl, ap, ◌∙◌, subst}
use Rattle.std.proofs.lemmas.Option.{none-some, same_Some}
use Rattle.rights.specs.declared.commands.Answer.{Answer}
use Rattle.rights.specs.declared.commands.Command.{Command}
use Rattle.rights.specs.declared.commands.State.{State}
use Rattle.rights.specs.declared.entries.Entry.{Entry}
use Rattle.rights.specs.declared.faults.SheetFault.{SheetFault}
use Rattle.rights.specs.Checks.{First}
use Rattle.rights.specs.Entries.{Before}
use Rattle.rights.specs.History.{History, with_entries, with_pairs, with_tables, Granting, Revoking, Becomes}
use Rattle.rights.specs.Pairs.{Before as PairBefore}
use Rattle.rights.specs.Refusals.{Lent, sheet_checks}
use Rattle.rights.specs.Runs.{Accepted, Step, refused, accepted, Call, Run, done, more}
use Rattle.rights.specs.Tables.{unmade}
use Rattle.rights.proofs.Access.{answers_unique}
use Rattle.rights.proofs.Chain.{revoked_same}
use Rattle.rights.proofs.Checks.{first_unique}
use Rattle.rights.proofs.Grounds.{answers_says}
use Rattle.rights.proofs.Order.{before_irreflexive, before_transitive}
use Rattle.rights.proofs.Pairs.{pair_one_way}
use Rattle.rights.proofs.Parts.{placed_same, unplaced_same, parted_same}

pub before_one_way : (e f : Entry) → Before e f → Before f e → ⊥
before_one_way e f p q = before_irreflexive e (before_transitive e f e p q)

-- the same end of one command
abbrev Same : List Entry → History → List Entry → History → Type 0
Same k g k' g' = (k ≡ k') × (g ≡ g')

same_grant : (e : Entry) (h g g' : History) → Granting e h g → Granting e h g' → g ≡ g'
same_grant e h g g' p q = p.2 ∙ ap (λ l. with_entries l h) (placed_same Before before_one_way e h.entries p.0 q.0 p.1 q.1) ∙ sym q.2

same_revoke : (e : Entry) (h g g' : History) (k k' : List Entry) → Revoking e h k g → Revoking e h k' g' → Same k g k' g'
same_revoke e h g g' k k' p q =
    let s = revoked_same h.tables e h.entries p.0 k q.0 k' p.1 q.1 in
    (s.1, p.2 ∙ ap (λ l. with_entries l h) s.0 ∙ sym q.2)

pub becomes_same : (h : History) (c : Command) (k k' : List Entry) (g g' : History) → Becomes h c k g → Becomes h c k' g' → Same k g k' g'
unfolding Becomes
becomes_same h (Command.Admit i m n) k k' g g' p q =
    (p.0 ∙ sym q.0, p.1.2 ∙ ap (λ l. with_pairs l h) (placed_same PairBefore pair_one_way _ h.pairs _ _ p.1.1 q.1.1) ∙ sym q.1.2)
becomes_same h (Command.Remove i m n) k k' g g' p q =
    (p.0 ∙ sym q.0, p.1.2 ∙ ap (λ l. with_pairs l h) (unplaced_same PairBefore pair_one_way _ _ _ h.pairs p.1.1 q.1.1) ∙ sym q.1.2)
becomes_same h (Command.Drop i t) k k' g g' p q =
    (p.0 ∙ sym q.0, p.1.3 ∙ ap (λ l. with_tables (unmade t h.tables) (with_entries l h)) (parted_same (λ (e : Entry). e.table ≡ t → ⊥) p.1.2 q.1.2).0 ∙ sym q.1.3)
becomes_same h (Command.Give i s p sign t strength) k k' g g' a b = (a.0 ∙ sym b.0, same_grant _ h g g' a.1 b.1)
becomes_same h (Command.Ungive i s p sign t strength) k k' g g' a b = same_revoke _ h g g' k k' a b
becomes_same h (Command.Lend i s p t kind rank) k k' g g' a b = (a.0 ∙ sym b.0, same_grant _ h g g' a.1 b.1)
becomes_same h (Command.Unlend i s p t kind rank) k k' g g' a b = same_revoke _ h g g' k k' a b
becomes_same h c k k' g g' p q = (p.0 ∙ sym q.0, p.1 ∙ sym q.1)

pub accepted_same : (h : History) (c : Command) (k : List Entry) (a a' : Answer) → Accepted h c k a → Accepted h c k a' → a ≡ a'
unfolding Accepted
accepted_same h (Command.May u p t) k a a' x y = answers_unique h.pairs h.tables h.entries u _ t a a' x y
accepted_same h c k a a' x y = x ∙ sym y

-- one right answer, struck list, next state and next history
pub step_same : {lent : Lent} {state : State} {h : History} {c : Command} {k k' : List Entry} {a a' : Answer} {s s' : State} {g g' : History} → Step lent state h c k a s g → Step lent state h c k' a' s' g' → (k ≡ k') × (a ≡ a') × (s ≡ s') × (g ≡ g')
step_same {lent} {state} {h} {c} (refused {f = f} p) (refused {f = f'} q) =
    (refl, ap Answer.Refused (same_Some f f' (first_unique _ (Some f) (Some f') p q)), refl, refl)
step_same (refused {f = f} p) (accepted q _ _) = absurd (none-some f (sym (first_unique _ (Some f) None p q)))
step_same (accepted p _ _) (refused {f = f} q) = absurd (none-some f (sym (first_unique _ (Some f) None q p)))
step_same {lent} {state} {h} {c} (accepted {a = a} {struck = k} {h' = g} p x b) (accepted {a = a'} {struck = k'} {h' = g'} q y b') =
    let s = becomes_same h c k k' g g' b b' in
    (s.0, accepted_same h c k a a' x (subst (λ l. Accepted h c l a') (sym s.0) y), refl, s.1)

-- and so for a list of commands
pub run_same : {state : State} {h : History} {cs : List Call} {ks ks' : List (List Entry)} {l l' : List Answer} {s s' : State} {g g' : History} → Run state h cs ks l s g → Run state h cs ks' l' s' g' → (ks ≡ ks') × (l ≡ l') × (s ≡ s') × (g ≡ g')
run_same done done = (refl, refl, refl, refl)
run_same (more {state' = s} {h' = g} {struck = k} {all = ks} {a = a} {answers = l} p x) (more {state' = s'} {state'' = e} {h' = g'} {h'' = f} {cs = cs} {struck = k'} {all = ks'} {a = a'} {answers = l'} q y) =
    let same = step_same p q in
    let y' : Run s g cs ks' l' e f = subst (λ v. Run v g cs ks' l' e f) (sym same.2) (subst (λ v. Run s' v cs ks' l' e f) (sym same.3) y) in
    let rest = run_same x y' in
    let first : k ≡ k' = same.0 in
    let others : ks ≡ ks' = rest.0 in
    let answer : a ≡ a' = same.1 in
    let answers : l ≡ l' = rest.1 in
    ((cc), (cc), rest.2, rest.3)

-- an accepted command is never answered by a refusal
accepted_word : (h : History) (c : Command) (k : List Entry) (f : SheetFault) → Accepted h c k (Answer.Refused f) → ⊥
unfolding Accepted
accepted_word h (Command.Ungive i s p sign t strength) k f e = cc
accepted_word h (Command.Unlend i s p t kind rank) k f e = cc
accepted_word h (Command.May u p t) k f e = answers_says h.pairs h.tables h.entries u _ t (Answer.Refused f) e
accepted_word h c k f e = cc

-- refused by the first check that applies, and then nothing changes
pub refused_first : {lent : Lent} {state : State} {h : History} {c : Command} {k : List Entry} {s : State} {g : History} {f : SheetFault} → Step lent state h c k (Answer.Refused f) s g → First (sheet_checks lent h state c) (Some f) × (k ≡ []) × (s ≡ state) × (g ≡ h)
refused_first (refused p) = (p, refl, refl, refl)
refused_first {h = h} {c = c} {k = k} {f = f} (accepted p x b) = absurd (accepted_word h c k f x)

-- carried out exactly where no check applies
pub accepted_first : {lent : Lent} {state : State} {h : History} {c : Command} {k : List Entry} {a : Answer} {s : State} {g : History} → Step lent state h c k a s g → ((f : SheetFault) → a ≡ Answer.Refused f → ⊥) → First (sheet_checks lent h state c) None × Becomes h c k g
accepted_first (refused {f = f} p) n = absurd (n f refl)
accepted_first (accepted p x b) n = (p, b)

pub first_accepted : {lent : Lent} {state : State} {h : History} {c : Command} {k : List Entry} {a : Answer} {s : State} {g : History} → Step lent state h c k a s g → First (sheet_checks lent h state c) None → (f : SheetFault) → a ≡ Answer.Refused f → ⊥
first_accepted (refused {f = f} p) q g e = absurd (none-some f (sym (first_unique _ (Some f) None p q)))
first_accepted {h = h} {c = c} {k = k} (accepted p x b) q g e = accepted_word h c k g (subst (λ a. Accepted h c k a) e x)
