-- The walk: a subject marked, the groups of one member, and all that is reached.
use Rattle.std.proofs.Common.{◌≡◌, ℕ, zero, suc, ◌+◌, ◌<◌, Bool, true, false, cond, ◌⊎◌, List, [], ◌∷◌, length, get_or, set, replicate, ◌++◌, sym, refl, ap, ◌∙◌, subst, inl, inr, ⊎_elim, arith}
use Rattle.std.proofs.lemmas.List.{get_or-set_same, get_or-set_other, get_or_past, get_or-replicate, length-replicate}
use Rattle.std.proofs.lemmas.Bool.{cases_eq, cases_lt, both_ways}
use Rattle.std.specs.List.{Contains}
use Rattle.std.proofs.lemmas.List.{length-append}
use Rattle.std.proofs.lemmas.List.Elements.{Contains-append_left, Contains-append_right, Contains-append_cases, Contains-push, Contains-push_cases}
use Rattle.rights.specs.declared.entries.Pair.{Pair}
use Rattle.rights.specs.Lists.{In}
use Rattle.rights.specs.Pairs.{pair}
use Rattle.rights.specs.Within.{Within}
use Rattle.rights.proofs.Within.{within_refl, within_one, within_trans, within_keeps}
use Rattle.roll.specs.Walks.{Marked, unmarked, Marks, Reaches}

pub unmarked_less : (bs : List Bool) (h : ℕ) → h < length bs → get_or bs h false ≡ false → unmarked (set bs h true) + 1 ≡ unmarked bs
unfolding unmarked
unmarked_less [] h l e = absurd (omega arith)
unmarked_less (b ∷ bs) zero l e = let f : ◌≡◌ {A = ℕ} (cond b 0 1) 1 = ap (λ x. cond x 0 1) e in omega (arith, f)
unmarked_less (b ∷ bs) (suc h) l e = omega (arith, unmarked_less bs h (omega arith) e)

pub unmarked_all : (n : ℕ) → unmarked (replicate n false) ≡ n
unfolding unmarked
unmarked_all zero = refl
unmarked_all (suc n) = omega (arith, unmarked_all n)

module _ (marks : List Bool) (s : ℕ) where
  pub marked_self : s < length marks → Marked (set marks s true) s
  marked_self l = get_or-set_same marks s true false l

  pub marked_still : (h : ℕ) → Marked marks h → Marked (set marks s true) h
  marked_still h e = ⊎_elim
      (λ q. ⊎_elim (λ l. subst (Marked (set marks s true)) (sym q) (marked_self l)) (λ l. absurd (both_ways (get_or marks h false) (get_or_past marks h false (omega arith)) e)) (cases_lt s (length marks)))
      (λ n. get_or-set_other marks s h true false n ∙ e)
      (cases_eq h s)

  pub marked_before : (h : ℕ) → Marked (set marks s true) h → (h ≡ s) ⊎ Marked marks h
  marked_before h e = ⊎_elim inl (λ n. inr (sym (get_or-set_other marks s h true false n) ∙ e)) (cases_eq h s)

-- nothing is marked
pub marked_none : (n h : ℕ) → Marked (replicate n false) h → ⊥
marked_none n h e = ⊎_elim
    (λ l. both_ways (get_or (replicate n false) h false) (get_or-replicate n h false false l) e)
    (λ l. both_ways (get_or (replicate n false) h false) (get_or_past (replicate n false) h false (omega (arith, length-replicate n false))) e)
    (cases_lt h n)

pub room_one : (h : ℕ) → h < 256 → 1 + unmarked (set (replicate 256 false) h true) ≡ 256
room_one h l = omega (arith, unmarked_less (replicate 256 false) h l (get_or-replicate 256 h false false l), unmarked_all 256)

-- a subject that was not marked
pub marks_one : (marks : List Bool) (todo : List ℕ) (h : ℕ) → h < length marks → get_or marks h false ≡ false → Marks (λ x. x ≡ h) marks (set marks h true) todo (todo ++ h ∷ [])
marks_one marks todo h l e = record {
  grows = marked_still marks h;
  takes = λ x q. subst (Marked (set marks h true)) (sym q) (marked_self marks h l);
  only = λ x m. ⊎_elim (λ q. inr (q, subst (Contains (todo ++ h ∷ [])) (sym q) (Contains-push todo h))) inl (marked_before marks h x m);
  stays = λ x i. Contains-append_left todo (h ∷ []) x i;
  listed = λ x i. ⊎_elim inl (λ q. inr (subst (Marked (set marks h true)) q (marked_self marks h l))) (Contains-push_cases todo h x i);
  less = omega (arith, unmarked_less marks h l e, length-append todo (h ∷ []));
}

pub marks_like : (P Q : ℕ → Type 0) (old new : List Bool) (todo after : List ℕ) → ((h : ℕ) → P h → Q h) → ((h : ℕ) → Q h → P h) → Marks P old new todo after → Marks Q old new todo after
marks_like P Q old new todo after on back now = record {
  grows = now.grows;
  takes = λ h q. now.takes h (back h q);
  only = λ h e. ⊎_elim inl (λ k. inr (on h k.0, k.1)) (now.only h e);
  stays = now.stays;
  listed = now.listed;
  less = now.less;
}

-- one step after another
pub marks_both : (P Q : ℕ → Type 0) (a b c : List Bool) (u v w : List ℕ) → Marks P a b u v → Marks Q b c v w → Marks (λ h. P h ⊎ Q h) a c u w
marks_both P Q a b c u v w one two = record {
  grows = λ h e. two.grows h (one.grows h e);
  takes = λ h. ⊎_elim (λ p. two.grows h (one.takes h p)) (two.takes h);
  only = λ h e. ⊎_elim (λ k. ⊎_elim inl (λ j. inr (inl j.0, two.stays h j.1)) (one.only h k)) (λ k. inr (inr k.0, k.1)) (two.only h e);
  stays = λ h i. two.stays h (one.stays h i);
  listed = λ h i. ⊎_elim (λ k. ⊎_elim inl (λ e. inr (two.grows h e)) (one.listed h k)) inr (two.listed h i);
  less = omega (arith, one.less, two.less);
}

-- marked is only what s is within, and the pairs of all that is marked are followed or still to be
pub record Walking (ps : List Pair) (s : ℕ) (marks : List Bool) (todo : List ℕ) : Type 0 where
  pub start : Marked marks s
  pub sound : (h : ℕ) → Marked marks h → Within ps s h
  pub listed : (h : ℕ) → Contains todo h → Marked marks h
  pub closed : (a h : ℕ) → Marked marks a → In (pair a h) ps → Contains todo a ⊎ Marked marks h

module _ (ps : List Pair) (s : ℕ) where
  pub walking_none : s < 256 → Walking ps s (set (replicate 256 false) s true) (s ∷ [])
  walking_none l = record {
    start = marked_self (replicate 256 false) s (omega (arith, length-replicate 256 false));
    sound = λ h e. ⊎_elim (λ q. subst (Within ps s) (sym q) (within_refl ps s)) (λ n. absurd (marked_none 256 h n)) (marked_before (replicate 256 false) s h e);
    listed = λ h i. ⊎_elim (λ k. absurd (omega (arith, k.1))) (λ q. subst (Marked (set (replicate 256 false) s true)) q (marked_self (replicate 256 false) s (omega (arith, length-replicate 256 false)))) (Contains-push_cases [] s h i);
    closed = λ a h e i. ⊎_elim (λ q. inl (subst (Contains (s ∷ [])) (sym q) (Contains-push [] s))) (λ n. absurd (marked_none 256 a n)) (marked_before (replicate 256 false) s a e);
  }

  pub walking_more : (m : ℕ) (marks new : List Bool) (todo after : List ℕ) → Walking ps s marks (m ∷ todo) → Marks (λ h. In (pair m h) ps) marks new todo after → Walking ps s new after
  walking_more m marks new todo after now step = record {
    start = step.grows s now.start;
    sound = λ h e. ⊎_elim (now.sound h) (λ k. within_trans ps s m h (now.sound m here) (within_one ps m h k.0)) (step.only h e);
    listed = λ h i. ⊎_elim (λ k. step.grows h (now.listed h (Contains-append_right (m ∷ []) todo h k))) (λ e. e) (step.listed h i);
    closed = λ a h e i. ⊎_elim
        (λ old. ⊎_elim
        (λ k. ⊎_elim
        (λ j. ⊎_elim (λ z. absurd (omega (arith, z.1))) (λ q. inr (step.takes h (subst (λ x. In (pair x h) ps) (sym q) i))) (Contains-push_cases [] m a j))
        (λ j. inl (step.stays a j))
        (Contains-append_cases (m ∷ []) todo a k))
        (λ k. inr (step.grows h k))
        (now.closed a h old i))
        (λ k. inl k.1)
        (step.only a e);
  }
    where
      here : Marked marks m
      here = now.listed m (Contains-append_left (m ∷ []) todo m (Contains-push [] m))

  pub walking_all : (marks : List Bool) (todo : List ℕ) → Walking ps s marks todo → todo ≡ [] → Reaches ps s marks
  walking_all marks todo now none h = (now.sound h, λ w. within_keeps ps (Marked marks) on s h w now.start)
    where
      on : (a b : ℕ) → In (pair a b) ps → Marked marks a → Marked marks b
      on a b i e = ⊎_elim (λ k. absurd (omega (arith, k.1, ap length none))) (λ k. k) (now.closed a b e i)
