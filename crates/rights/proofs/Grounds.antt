-- What each answer to a question says: the rule that its ground stands for applies, and no earlier one does.
use Rattle.std.proofs.Common.{◌≡◌, ℕ, List, Some, sym, refl, subst, inl, inr, ⊎_elim}
use Rattle.std.proofs.lemmas.Option.{same_Some}
use Rattle.rights.specs.declared.commands.Answer.{Answer}
use Rattle.rights.specs.declared.commands.Ground.{Ground}
use Rattle.rights.specs.declared.entries.Entry.{Entry}
use Rattle.rights.specs.declared.entries.Pair.{Pair}
use Rattle.rights.specs.declared.vocabulary.Privilege.{Privilege}
use Rattle.rights.specs.Access.{Denied, Weakly, ByNames, rules, Answers}
use Rattle.rights.specs.Checks.{First}
use Rattle.rights.specs.Holding.{StrongPlus}
use Rattle.rights.specs.Tables.{Tables}

module _ (pairs : List Pair) (tables : Tables) (entries : List Entry) (u : ℕ) (p : Privilege) (t : ℕ) where
  abbrev NoStrong : Type 0
  NoStrong = (StrongPlus pairs tables entries u p t → ⊥) × (Denied pairs tables entries u p t → ⊥)

  abbrev pub Says : Answer → Type 0
  Says (Answer.Yes Ground.Strong) = StrongPlus pairs tables entries u p t
  Says (Answer.Yes Ground.Weak) = NoStrong × Weakly pairs tables entries u p t
  Says (Answer.Yes Ground.Named) = NoStrong × (Weakly pairs tables entries u p t → ⊥) × ByNames pairs tables entries u p t
  Says (Answer.No Ground.Nothing) = NoStrong × (Weakly pairs tables entries u p t → ⊥) × (ByNames pairs tables entries u p t → ⊥)
  Says (Answer.No Ground.Strong) = (StrongPlus pairs tables entries u p t → ⊥) × Denied pairs tables entries u p t
  Says _ = ⊥

  pub answers_says : (a : Answer) → Answers pairs tables entries u p t a → Says a
  unfolding Answers rules First
  answers_says a h = ⊎_elim (λ s. so (Answer.Yes Ground.Strong) s.1 s.0) (λ k. ⊎_elim (λ d. so (Answer.No Ground.Strong) d.1 (k.0, d.0))
      (λ l. ⊎_elim (λ w. so (Answer.Yes Ground.Weak) w.1 ((k.0, l.0), w.0)) (λ m. ⊎_elim (λ n. so (Answer.Yes Ground.Named) n.1 ((k.0, l.0), m.0, n.0))
      (λ q. ⊎_elim (λ e. so (Answer.No Ground.Nothing) e.1 ((k.0, l.0), m.0, q.0)) (λ e. absurd (e.0 tt)) q.1) m.1) l.1) k.1) h
    where
      so : (b : Answer) → Some a ≡ Some b → Says b → Says a
      so b e s = subst Says (sym (same_Some a b e)) s

  pub says_answers : (a : Answer) → Says a → Answers pairs tables entries u p t a
  unfolding Answers rules First
  says_answers (Answer.Yes Ground.Strong) s = inl (s, refl)
  says_answers (Answer.Yes Ground.Weak) s = inr (s.0.0, inr (s.0.1, inl (s.1, refl)))
  says_answers (Answer.Yes Ground.Named) s = inr (s.0.0, inr (s.0.1, inr (s.1, inl (s.2, refl))))
  says_answers (Answer.No Ground.Nothing) s = inr (s.0.0, inr (s.0.1, inr (s.1, inr (s.2, inl (tt, refl)))))
  says_answers (Answer.No Ground.Strong) s = inr (s.0, inl (s.1, refl))
  says_answers _ s = absurd s
