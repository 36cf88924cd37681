-- The laws of the first check that applies: one answer, found where every condition is decided, the same for like conditions.
use Rattle.std.proofs.Common.{◌≡◌, Bool, true, false, cond, ◌⊎◌, List, [], ◌∷◌, ◌++◌, Some, None, Decides, Option, sym, refl, ap, ◌∙◌, subst, inl, inr, ⊎_elim}
use Rattle.std.proofs.lemmas.Bool.Decides.{not_from_Decides}
use Rattle.std.proofs.lemmas.Option.{none-some}
use Rattle.rights.specs.Checks.{Check, First}

module _ {F : Type 0} where
  pub some_none : (f : F) → Some f ≡ None → ⊥
  some_none f e = none-some f (sym e)

  pub none_some : (f : F) → None ≡ Some f → ⊥
  none_some = none-some

  pub first_none : (r : Option F) → r ≡ None → First [] r
  unfolding First
  first_none r e = e

  pub first_hit : (c : Check F) (cs : List (Check F)) → c.when → First (c ∷ cs) (Some c.gives)
  unfolding First
  first_hit c cs p = inl (p, refl)

  pub first_miss : (c : Check F) (cs : List (Check F)) (r : Option F) → (c.when → ⊥) → First cs r → First (c ∷ cs) r
  unfolding First
  first_miss c cs r n h = inr (n, h)

  pub first_cases : (c : Check F) (cs : List (Check F)) (r : Option F) → First (c ∷ cs) r → (c.when × (r ≡ Some c.gives)) ⊎ ((c.when → ⊥) × First cs r)
  unfolding First
  first_cases c cs r h = h

  pub first_nothing : (r : Option F) → First [] r → r ≡ None
  unfolding First
  first_nothing r h = h

  -- two answers are equal
  pub first_unique : (cs : List (Check F)) (r q : Option F) → First cs r → First cs q → r ≡ q
  unfolding First
  first_unique [] r q h k = h ∙ sym k
  first_unique (c ∷ cs) r q (inl h) (inl k) = h.1 ∙ sym k.1
  first_unique (c ∷ cs) r q (inl h) (inr k) = absurd (k.0 h.0)
  first_unique (c ∷ cs) r q (inr h) (inl k) = absurd (h.0 k.0)
  first_unique (c ∷ cs) r q (inr h) (inr k) = first_unique cs r q h.1 k.1

  -- each condition is decided by the test in its place
  abbrev pub Decided : List (Check F) → List Bool → Type 0
  Decided [] [] = Unit {0}
  Decided [] (b ∷ bs) = ⊥
  Decided (c ∷ cs) [] = ⊥
  Decided (c ∷ cs) (b ∷ bs) = Decides b c.when × Decided cs bs

  -- what is given where the tests say which conditions hold
  abbrev pub first_of : List (Check F) → List Bool → Option F
  first_of [] bs = None
  first_of (c ∷ cs) [] = None
  first_of (c ∷ cs) (b ∷ bs) = cond b (Some c.gives) (first_of cs bs)

  pub first_decided : (cs : List (Check F)) (bs : List Bool) → Decided cs bs → First cs (first_of cs bs)
  first_decided [] [] d = first_none None refl
  first_decided [] (b ∷ bs) d = absurd d
  first_decided (c ∷ cs) [] d = absurd d
  first_decided (c ∷ cs) (true ∷ bs) d = first_hit c cs (d.0.0 refl)
  first_decided (c ∷ cs) (false ∷ bs) d = first_miss c cs (first_of cs bs) (not_from_Decides false d.0 refl) (first_decided cs bs d.1)

  -- the same answers in the same order, under conditions that hold alike
  abbrev pub Alike : List (Check F) → List (Check F) → Type 0
  Alike [] [] = Unit {0}
  Alike [] (d ∷ ds) = ⊥
  Alike (c ∷ cs) [] = ⊥
  Alike (c ∷ cs) (d ∷ ds) = (c.gives ≡ d.gives) × (c.when → d.when) × (d.when → c.when) × Alike cs ds

  pub first_alike : (cs ds : List (Check F)) (r : Option F) → Alike cs ds → First cs r → First ds r
  first_alike [] [] r a h = h
  first_alike [] (d ∷ ds) r a h = absurd a
  first_alike (c ∷ cs) [] r a h = absurd a
  first_alike (c ∷ cs) (d ∷ ds) r a h = ⊎_elim
      (λ k. subst (First (d ∷ ds)) (sym (k.1 ∙ ap Some a.0)) (first_hit d ds (a.1 k.0)))
      (λ k. first_miss d ds r (λ p. k.0 (a.2 p)) (first_alike cs ds r a.3 k.1))
      (first_cases c cs r h)

  -- an answer of the first checks is one of them all
  pub first_early : (cs ds : List (Check F)) (f : F) → First cs (Some f) → First (cs ++ ds) (Some f)
  unfolding First
  first_early [] ds f h = absurd (none-some f (sym h))
  first_early (c ∷ cs) ds f (inl h) = inl h
  first_early (c ∷ cs) ds f (inr h) = inr (h.0, first_early cs ds f h.1)

  -- where none of the first applies, the others decide
  pub first_late : (cs ds : List (Check F)) (r : Option F) → First cs None → First ds r → First (cs ++ ds) r
  unfolding First
  first_late [] ds r h k = k
  first_late (c ∷ cs) ds r (inl h) k = absurd (none-some c.gives h.1)
  first_late (c ∷ cs) ds r (inr h) k = inr (h.0, first_late cs ds r h.1 k)
