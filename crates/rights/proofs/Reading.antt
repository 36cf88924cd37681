-- What an answer reads: two states with the same tables and entries at a table and beneath it give it the same answers.
use Rattle.std.proofs.Common.{◌≡◌, ℕ, List, [], ◌∷◌, Some, sym, refl, ◌∙◌, subst, inl, inr}
use Rattle.rights.specs.declared.commands.Answer.{Answer}
use Rattle.rights.specs.declared.entries.Entry.{Entry}
use Rattle.rights.specs.declared.entries.Pair.{Pair}
use Rattle.rights.specs.declared.vocabulary.Privilege.{Privilege}
use Rattle.rights.specs.declared.vocabulary.Sign.{Sign}
use Rattle.rights.specs.declared.vocabulary.Strength.{Strength}
use Rattle.rights.specs.Access.{ButLast, other, WeakAt, Applies, Denied, Weakly, Granted, strongly, weakly, by_names, ByNames, rules, Answers}
use Rattle.rights.specs.Holding.{Holds, StrongPlus, StrongMinus}
use Rattle.rights.specs.Laws.{SameBelow, ReadsBelow}
use Rattle.rights.specs.Lists.{In}
use Rattle.rights.specs.Tables.{Table, Tables, IsBase, IsView, Owns, Names, Beneath, named, deeper, AtOrBeneath}
use Rattle.rights.proofs.Checks.{first_alike}
use Rattle.rights.proofs.Tables.{beneath_trans}

module _ (tables : Tables) where
  pub at_or_beneath_deeper : (c b t : ℕ) → AtOrBeneath tables b t → AtOrBeneath tables c b → AtOrBeneath tables c t
  at_or_beneath_deeper c b t (inl e) q = subst (AtOrBeneath tables c) e q
  at_or_beneath_deeper c b t (inr h) (inl e) = inr (subst (λ x. Beneath tables x t) (sym e) h)
  at_or_beneath_deeper c b t (inr h) (inr q) = inr (beneath_trans tables q h)

-- a fact of the table under a number, where both have the same
module _ (tables tables' : Tables) (P : Table → Type 0) (t : ℕ) where
  table_same : tables t ≡ tables' t → (r : Table) × (tables t ≡ Some r) × P r → (r : Table) × (tables' t ≡ Some r) × P r
  table_same e h = (h.0, sym e ∙ h.1, h.2)

module _ (tables : Tables) (entries : List Entry) (tables' : Tables) (entries' : List Entry) where
  abbrev Same : ℕ → Type 0
  Same t = SameBelow tables entries tables' entries' t

  pub same_deeper : (b t : ℕ) → AtOrBeneath tables b t → Same t → Same b
  same_deeper b t q h = record {
    same_table = λ c k. h.same_table c (at_or_beneath_deeper tables c b t q k);
    same_entry = λ e k. h.same_entry e (at_or_beneath_deeper tables e.table b t q k);
  }

  beneath_same : {b t : ℕ} → Beneath tables b t → Same t → Beneath tables' b t
  beneath_same (named {t} {v} n) h = named (table_same tables tables' (λ r. In t r.names) v (h.same_table v (inl refl)) n)
  beneath_same (deeper {t} {w} {v} n q) h =
      deeper (table_same tables tables' (λ r. In w r.names) v (h.same_table v (inl refl)) n) (beneath_same q (same_deeper w v (inr (named n)) h))

  pub beneath_back : {b t : ℕ} → Beneath tables' b t → Same t → Beneath tables b t
  beneath_back (named {t} {v} n) h = named (table_same tables' tables (λ r. In t r.names) v (sym (h.same_table v (inl refl))) n)
  beneath_back (deeper {t} {w} {v} n q) h =
      let m = table_same tables' tables (λ r. In w r.names) v (sym (h.same_table v (inl refl))) n in
      deeper m (beneath_back q (same_deeper w v (inr (named m)) h))

  pub same_back : (t : ℕ) → Same t → SameBelow tables' entries' tables entries t
  same_back t h = record {
    same_table = λ b q. sym (h.same_table b (back b q));
    same_entry = λ e q. let k = h.same_entry e (back e.table q) in (k.1, k.0);
  }
    where
      back : (b : ℕ) → AtOrBeneath tables' b t → AtOrBeneath tables b t
      back b (inl e) = inl e
      back b (inr q) = inr (beneath_back q h)

-- each notion of the rules passes from the one state to the other
module _ (pairs : List Pair) (tables : Tables) (entries : List Entry) (tables' : Tables) (entries' : List Entry) where
  entry_same : (t : ℕ) → SameBelow tables entries tables' entries' t → (e : Entry) → e.table ≡ t → In e entries → In e entries'
  entry_same t h e at i = (h.same_entry e (inl at)).0 i

  holds_same : (s : ℕ) (p : Privilege) (sign : Sign) (t : ℕ) (r : Strength) → SameBelow tables entries tables' entries' t → Holds pairs entries s p sign t r → Holds pairs entries' s p sign t r
  unfolding Holds
  holds_same s p sign t r h k = (k.0, entry_same t h k.0 k.2.0 k.1, k.2, k.3)

  base_same : (t : ℕ) → SameBelow tables entries tables' entries' t → IsBase tables t → IsBase tables' t
  base_same t h = table_same tables tables' (λ r. r.names ≡ []) t (h.same_table t (inl refl))

  view_same : (t : ℕ) → SameBelow tables entries tables' entries' t → IsView tables t → IsView tables' t
  view_same t h = table_same tables tables' (λ r. r.names ≡ [] → ⊥) t (h.same_table t (inl refl))

  owns_same : (x t : ℕ) → SameBelow tables entries tables' entries' t → Owns tables x t → Owns tables' x t
  owns_same x t h = table_same tables tables' (λ r. r.owner ≡ x) t (h.same_table t (inl refl))

  names_back : (t d : ℕ) → SameBelow tables entries tables' entries' t → Names tables' t d → Names tables t d
  names_back t d h = table_same tables' tables (λ r. In d r.names) t (sym (h.same_table t (inl refl)))

  pub strong_plus_same : (s : ℕ) (p : Privilege) (t : ℕ) → SameBelow tables entries tables' entries' t → StrongPlus pairs tables entries s p t → StrongPlus pairs tables' entries' s p t
  unfolding StrongPlus
  strong_plus_same s p t h (inl k) = inl (holds_same s p Sign.Plus t Strength.Strong h k)
  strong_plus_same s p t h (inr o) = inr (base_same t h o.0, owns_same s t h o.1)

  strong_minus_same : (s : ℕ) (p : Privilege) (t : ℕ) → SameBelow tables entries tables' entries' t → StrongMinus pairs entries s p t → StrongMinus pairs entries' s p t
  unfolding StrongMinus
  strong_minus_same s p t h k = holds_same s p Sign.Minus t Strength.Strong h k

  weak_at_same : (p : Privilege) (sign : Sign) (t s : ℕ) → SameBelow tables entries tables' entries' t → WeakAt pairs tables entries p sign t s → WeakAt pairs tables' entries' p sign t s
  unfolding WeakAt
  weak_at_same p sign t s h k = (k.0, entry_same t h k.0 k.2.0 k.1, k.2, k.3)

  denied_same : (u : ℕ) (p : Privilege) (t : ℕ) → SameBelow tables entries tables' entries' t → Denied pairs tables entries u p t → Denied pairs tables' entries' u p t
  unfolding Denied
  denied_same u p t h (inl m) = inl (strong_minus_same u p t h m)
  denied_same u p t h (inr k) =
      let there = same_deeper tables entries tables' entries' k.0 t (inr k.2) h in
      inr (k.0, base_same k.0 there k.1, beneath_same tables entries tables' entries' k.2 h, strong_minus_same u p k.0 there k.3)

-- what holds before a path's end passes to what follows from it
but_last_like : (P Q : ℕ → Type 0) → ((s : ℕ) → P s → Q s) → (l : List ℕ) → ButLast P l → ButLast Q l
but_last_like P Q f [] b = tt
but_last_like P Q f (s ∷ []) b = tt
but_last_like P Q f (s ∷ g ∷ l) b = (f s b.0, but_last_like P Q f (g ∷ l) b.1)

module _ (pairs : List Pair) (tables : Tables) (entries : List Entry) (tables' : Tables) (entries' : List Entry) where
  applies_same : (u : ℕ) (p : Privilege) (sign : Sign) (t : ℕ) → SameBelow tables entries tables' entries' t → Applies pairs tables entries u p sign t → Applies pairs tables' entries' u p sign t
  unfolding Applies
  applies_same u p sign t h a =
      let back = same_back tables entries tables' entries' t h in (
        a.0,
        a.1,
        weak_at_same pairs tables entries tables' entries' p sign t a.0 h a.2,
        a.3,
        but_last_like (λ x. WeakAt pairs tables entries p (other sign) t x → ⊥) (λ x. WeakAt pairs tables' entries' p (other sign) t x → ⊥)
            (λ s n w. n (weak_at_same pairs tables' entries' tables entries p (other sign) t s back w)) a.1 a.4,
      )

module _ (pairs : List Pair) (tables : Tables) (entries : List Entry) (tables' : Tables) (entries' : List Entry) where
  weakly_same : (u : ℕ) (p : Privilege) (t : ℕ) → SameBelow tables entries tables' entries' t → Weakly pairs tables entries u p t → Weakly pairs tables' entries' u p t
  unfolding Weakly
  weakly_same u p t h w = (
    applies_same pairs tables entries tables' entries' u p Sign.Plus t h w.0,
    λ a. w.1 (applies_same pairs tables' entries' tables entries u p Sign.Minus t (same_back tables entries tables' entries' t h) a),
  )

  not_denied_same : (u : ℕ) (p : Privilege) (t : ℕ) → SameBelow tables entries tables' entries' t → (Denied pairs tables entries u p t → ⊥) → Denied pairs tables' entries' u p t → ⊥
  not_denied_same u p t h n d = n (denied_same pairs tables' entries' tables entries u p t (same_back tables entries tables' entries' t h) d)

  named_same : (t d : ℕ) → SameBelow tables entries tables' entries' t → Names tables t d → SameBelow tables entries tables' entries' d
  named_same t d h n = same_deeper tables entries tables' entries' d t (inr (named n)) h

  pub granted_same : {u : ℕ} {p : Privilege} {t : ℕ} → Granted pairs tables entries u p t → SameBelow tables entries tables' entries' t → Granted pairs tables' entries' u p t
  granted_same {u} {p} (strongly {t} s) h = strongly (strong_plus_same pairs tables entries tables' entries' u p t h s)
  granted_same {u} {p} (weakly {t} n w) h = weakly (not_denied_same u p t h n) (weakly_same u p t h w)
  granted_same {u} {p} (by_names {t} n v o g) h =
      by_names (not_denied_same u p t h n) (view_same pairs tables entries tables' entries' t h v) (owns_same pairs tables entries tables' entries' u t h o)
      (λ d m. let k = names_back pairs tables entries tables' entries' t d h m in granted_same (g d k) (named_same t d h k))

  by_names_same : (u : ℕ) (p : Privilege) (t : ℕ) → SameBelow tables entries tables' entries' t → ByNames pairs tables entries u p t → ByNames pairs tables' entries' u p t
  unfolding ByNames
  by_names_same u p t h b = (
    view_same pairs tables entries tables' entries' t h b.0,
    owns_same pairs tables entries tables' entries' u t h b.1,
    λ d m. let k = names_back pairs tables entries tables' entries' t d h m in granted_same (b.2 d k) (named_same t d h k),
  )

module _ (pairs : List Pair) (tables : Tables) (entries : List Entry) (tables' : Tables) (entries' : List Entry) where
  answers_same : (u : ℕ) (p : Privilege) (t : ℕ) (a : Answer) → SameBelow tables entries tables' entries' t → Answers pairs tables entries u p t a → Answers pairs tables' entries' u p t a
  unfolding Answers rules
  answers_same u p t a h k =
      let back = same_back tables entries tables' entries' t h in
      first_alike (rules pairs tables entries u p t) (rules pairs tables' entries' u p t) (Some a) (
        refl,
        strong_plus_same pairs tables entries tables' entries' u p t h,
        strong_plus_same pairs tables' entries' tables entries u p t back,
        (
          refl,
          denied_same pairs tables entries tables' entries' u p t h,
          denied_same pairs tables' entries' tables entries u p t back,
          (
            refl,
            weakly_same pairs tables entries tables' entries' u p t h,
            weakly_same pairs tables' entries' tables entries u p t back,
            (
              refl,
              by_names_same pairs tables entries tables' entries' u p t h,
              by_names_same pairs tables' entries' tables entries u p t back,
              (refl, (λ _. tt), (λ _. tt), tt),
            ),
          ),
        ),
      ) k

pub reads_below : ReadsBelow
reads_below pairs tables tables' entries entries' t h u p a = (
  answers_same pairs tables entries tables' entries' u p t a h,
  answers_same pairs tables' entries' tables entries u p t a (same_back tables entries tables' entries' t h),
)
