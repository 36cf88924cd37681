-- The pairs of one member in a rising list: where they begin, one after another, and where they end.
use Rattle.std.proofs.Common.{◌≡◌, ℕ, ◌+◌, ◌-◌, ◌<◌, ◌≤◌, ◌⊎◌, List, length, get_or, take, drop, Some, sym, ap, ◌∙◌, subst, inl, inr, ⊎_elim, arith}
use Rattle.std.specs.List.{AllWithin, slice_get}
use Rattle.std.proofs.lemmas.List.{get_or_default, get_or-take, get_or-drop, length-take-le, length-drop}
use Rattle.std.proofs.lemmas.Option.{slice_get-get_or, slice_get_within, get_or_from_slice_get}
use Rattle.std.proofs.lemmas.Bool.{cases_lt}
use Rattle.rights.specs.declared.entries.Pair.{Pair}
use Rattle.rights.specs.Lists.{In}
use Rattle.rights.specs.Pairs.{pair, Before, RisingPairs}
use Rattle.rising.proofs.Sought.{in_place, rising_get_or}
use Rattle.roll.specs.Places.{Start}
use Rattle.roll.proofs.Places.{in_at}

-- x stands in the first n places
abbrev pub Among : List Pair → ℕ → Pair → Type 0
Among ps n x = (j : ℕ) × (j < n) × (slice_get ps j ≡ Some x)

pub among_in : (ps : List Pair) (n : ℕ) (x : Pair) → Among ps n x → In x ps
among_in ps n x a = subst (λ y. In y ps) (get_or_from_slice_get ps a.0 x x a.2) (in_at ps a.0 x (slice_get_within ps a.0 x a.2))

-- the places from first on, as the code lends them
abbrev pub rest : List Pair → ℕ → List Pair
rest ps first = take (length ps - first) (drop first ps)

at_rest : (ps : List Pair) (first k : ℕ) (d : Pair) → first + k < length ps → get_or (rest ps first) k d ≡ get_or ps (first + k) d
at_rest ps first k d l = get_or-take (length ps - first) (drop first ps) k d (omega arith) ∙ get_or-drop first ps k d

pub length_rest : (ps : List Pair) (first : ℕ) → length (rest ps first) ≡ length ps - first
length_rest ps first = length-take-le (length ps - first) (drop first ps) (omega (arith, length-drop first ps))

-- the pairs of lesser members stand below low, the others from high on; between is not settled
pub record Halving (ps : List Pair) (m low high : ℕ) : Type 0 where
  pub order : low ≤ high
  pub inside : high ≤ length ps
  pub below : AllWithin (λ q. q.member < m) ps 0 low
  pub above : AllWithin (λ q. m ≤ q.member) ps high (length ps)

module _ (ps : List Pair) (m : ℕ) (up : RisingPairs ps) where
  members_rise : (i j : ℕ) (d : Pair) → i ≤ j → j < length ps → (get_or ps i d).member ≤ (get_or ps j d).member
  members_rise i j d le l = ⊎_elim
      (λ lt. (rising_get_or Before ps i j d up lt l).0)
      (λ ge. let e : i ≡ j = omega arith in subst (λ x. (get_or ps i d).member ≤ (get_or ps x d).member) e (omega arith))
      (cases_lt i j)

  module _ (low high mid : ℕ) (e : Pair) (old : Halving ps m low high) (from : low ≤ mid) (to : mid < high) where
    here : (d : Pair) → (get_or ps mid d).member ≡ (get_or ps mid e).member
    here d = ap (λ x. x.member) (get_or_default ps mid d e (omega (arith, old.inside)))

    pub halving_above : (get_or ps mid e).member < m → Halving ps m (mid + 1) high
    halving_above h = record {
      order = omega arith;
      inside = old.inside;
      below = λ k d _ l. omega (arith, members_rise k mid d (omega arith) (omega (arith, old.inside)), here d, h);
      above = old.above;
    }

    pub halving_below : m ≤ (get_or ps mid e).member → Halving ps m low mid
    halving_below h = record {
      order = from;
      inside = omega (arith, old.inside);
      below = old.below;
      above = λ k d l less. omega (arith, members_rise mid k d l less, here d, h);
    }

  module _ (first : ℕ) (parts : Start ps m first) where
    module _ (k : ℕ) (d : Pair) where
      pub spread_more : k < length (rest ps first) → (get_or (rest ps first) k d).member ≡ m → (h : ℕ) → Among ps (first + k) (pair m h) ⊎ (h ≡ (get_or (rest ps first) k d).group) → Among ps (first + (k + 1)) (pair m h)
      spread_more l e h = ⊎_elim
          (λ a. (a.0, omega (arith, a.1), a.2))
          (λ q. let in_list : first + k < length ps = omega (arith, length_rest ps first) in
          (first + k, omega arith, slice_get-get_or ps (first + k) d in_list ∙ ap Some (sym (at_rest ps first k d in_list) ∙ same q)))
        where
          same : h ≡ (get_or (rest ps first) k d).group → get_or (rest ps first) k d ≡ pair m h
          same q = ap (λ x. pair x (get_or (rest ps first) k d).group) e ∙ ap (pair m) (sym q)

      pub spread_back : k < length (rest ps first) → (h : ℕ) → Among ps (first + (k + 1)) (pair m h) → Among ps (first + k) (pair m h) ⊎ (h ≡ (get_or (rest ps first) k d).group)
      spread_back l h a = ⊎_elim
          (λ lt. inl (a.0, lt, a.2))
          (λ ge.
          let q : a.0 ≡ first + k = omega (arith, a.1) in
          let in_list : first + k < length ps = omega (arith, length_rest ps first) in
          inr (sym (ap (λ x. x.group) (at_rest ps first k d in_list ∙ ap (λ n. get_or ps n d) (sym q) ∙ get_or_from_slice_get ps a.0 (pair m h) d a.2))))
          (cases_lt a.0 (first + k))

      -- where the next is another's, or none is left
      pub spread_past : (k < length (rest ps first) → (get_or (rest ps first) k d).member ≡ m → ⊥) → (h : ℕ) → In (pair m h) ps → Among ps (first + k) (pair m h)
      spread_past past h i =
          let o = in_place (pair m h) ps i d in
          let is = ap (λ x. x.member) o.2 in
          ⊎_elim
          (λ lt. (o.0, lt, slice_get-get_or ps o.0 d o.1 ∙ ap Some o.2))
          (λ ge.
          let in_list : first + k < length ps = omega (arith, o.1) in
          let no_less = parts.above (first + k) d (omega arith) in_list in
          absurd (past (omega (arith, length_rest ps first)) (ap (λ x. x.member) (at_rest ps first k d in_list) ∙ ⊎_elim
          (λ lt. let r = rising_get_or Before ps (first + k) o.0 d up lt o.1 in let s = r.0 in omega arith)
          (λ le. let q : first + k ≡ o.0 = omega arith in ap (λ n. (get_or ps n d).member) q ∙ is)
          (cases_lt (first + k) o.0))))
          (cases_lt o.0 (first + k))
