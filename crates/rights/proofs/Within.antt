-- The laws of within, for any list of pairs: reflexive, a step, transitive, growing with the pairs,
-- a pair more, decidable, loops, and sets that no pair leads out of.
use Rattle.std.proofs.Common.{◌≡◌, ℕ, Bool, ◌&&◌, ◌||◌, eqb, ◌⊎◌, List, [], ◌∷◌, Decides, refl, ap, subst, inl, inr}
use Rattle.std.proofs.lemmas.Bool.Decides.{Decides-eqb, Decides-and, Decides-or, Decides-like}
use Rattle.rights.specs.declared.entries.Pair.{Pair}
use Rattle.rights.specs.Lists.{In, Inside}
use Rattle.rights.specs.Pairs.{pair}
use Rattle.rights.specs.Within.{Path, here, step, Within, Below, Loopless}
use Rattle.rights.proofs.Deciding.{OrNot, either_way}

module _ (ps : List Pair) where
  pub within_refl : (s : ℕ) → Within ps s s
  unfolding Within
  within_refl s = (s ∷ [], here)

  pub within_same : (s g : ℕ) → s ≡ g → Within ps s g
  within_same s g e = subst (λ x. Within ps s x) e (within_refl s)

  pub within_step : (m h g : ℕ) → In (pair m h) ps → Within ps h g → Within ps m g
  unfolding Within
  within_step m h g i w = (m ∷ w.0, step i w.1)

  pub within_one : (m g : ℕ) → In (pair m g) ps → Within ps m g
  within_one m g i = within_step m g g i (within_refl g)

  -- against the pairs: what passes from each pair's group to its member holds at all that is within g
  pub within_back : (P : ℕ → Type 0) → ((m h : ℕ) → In (pair m h) ps → P h → P m) → (s g : ℕ) → Within ps s g → P g → P s
  unfolding Within
  within_back P pass s g w at = along w.1 at
    where
      along : {s g : ℕ} {l : List ℕ} → Path ps s g l → P g → P s
      along here p = p
      along (step {m} {h} i q) p = pass m h i (along q p)

  -- a set that no pair leads out of is not left: what holds at s and passes along every pair
  -- holds at all that s is within
  pub within_keeps : (P : ℕ → Type 0) → ((m h : ℕ) → In (pair m h) ps → P m → P h) → (s g : ℕ) → Within ps s g → P s → P g
  within_keeps P pass s g w = within_back (λ x. P x → P g) (λ m h i on at. on (pass m h i at)) s g w (λ at. at)

  pub within_trans : (s h g : ℕ) → Within ps s h → Within ps h g → Within ps s g
  within_trans s h g v w = within_back (λ x. Within ps x g) (λ m k i. within_step m k g i) s h v w

  -- by no pair, or by one and more
  pub within_cases : (s g : ℕ) → Within ps s g → (s ≡ g) ⊎ Below ps s g
  unfolding Within Below
  within_cases s g w = first w.1
    where
      first : {s g : ℕ} {l : List ℕ} → Path ps s g l → (s ≡ g) ⊎ Below ps s g
      first here = inl refl
      first (step {m} {h} {g} {l} i q) = inr (h, i, (l, q))

  pub below_within : (s g : ℕ) → Below ps s g → Within ps s g
  unfolding Below
  below_within s g b = within_step s b.0 g b.1 b.2

  pub below_step : (s h g : ℕ) → In (pair s h) ps → Within ps h g → Below ps s g
  unfolding Below
  below_step s h g i w = (h, i, w)

-- more pairs, more paths
pub within_grows : (ps qs : List Pair) → Inside ps qs → (s g : ℕ) → Within ps s g → Within qs s g
within_grows ps qs more s g w = within_back ps (λ x. Within qs x g) (λ m h i. within_step qs m h g (more (pair m h) i)) s g w (within_refl qs g)

pub within_none : (s g : ℕ) → Within [] s g → s ≡ g
within_none s g w = within_keeps [] (λ x. s ≡ x) (λ _ _ i _. absurd i) s g w refl

-- a pair (m, g) more opens the ways that lead to m and on from g
abbrev pub Through : List Pair → ℕ → ℕ → ℕ → ℕ → Type 0
Through ps m g s h = Within ps s h ⊎ (Within ps s m × Within ps g h)

module _ (ps : List Pair) (m g : ℕ) where
  pub within_more : (s h : ℕ) → Within (pair m g ∷ ps) s h → Through ps m g s h
  within_more s h w = within_back (pair m g ∷ ps) (λ x. Through ps m g x h) pass s h w (inl (within_refl ps h))
    where
      pass : (a b : ℕ) → In (pair a b) (pair m g ∷ ps) → Through ps m g b h → Through ps m g a h
      pass a b (inl e) (inl v) = inr (within_same ps a m (ap (λ p. p.member) e), subst (λ x. Within ps x h) (ap (λ p. p.group) e) v)
      pass a b (inl e) (inr v) = inr (within_same ps a m (ap (λ p. p.member) e), v.1)
      pass a b (inr i) (inl v) = inl (within_step ps a b h i v)
      pass a b (inr i) (inr v) = inr (within_step ps a b m i v.0, v.1)

  pub within_through : (s h : ℕ) → Through ps m g s h → Within (pair m g ∷ ps) s h
  within_through s h (inl w) = within_grows ps (pair m g ∷ ps) (λ _ i. inr i) s h w
  within_through s h (inr v) =
      within_trans (pair m g ∷ ps) s m h (within_grows ps (pair m g ∷ ps) (λ _ i. inr i) s m v.0)
      (within_step (pair m g ∷ ps) m g h (inl refl) (within_grows ps (pair m g ∷ ps) (λ _ i. inr i) g h v.1))

-- s is within g: already by the rest of the pairs, or through the first of them.
abbrev pub within_test : List Pair → ℕ → ℕ → Bool
within_test [] s g = eqb s g
within_test (a ∷ ps) s g =
    let on = within_test ps a.group g in
    let through = within_test ps s a.member && on in
    within_test ps s g || through

pub decides_within : (ps : List Pair) (s g : ℕ) → Decides (within_test ps s g) (Within ps s g)
decides_within [] s g = Decides-like _ (within_same [] s g) (within_none s g) (Decides-eqb s g)
decides_within (a ∷ ps) s g =
    Decides-like _ (within_through ps a.member a.group s g) (within_more ps a.member a.group s g)
    (Decides-or _ _ (decides_within ps s g) (Decides-and _ _ (decides_within ps s a.member) (decides_within ps a.group g)))

-- within is decidable
pub within_or_not : (ps : List Pair) (s g : ℕ) → OrNot (Within ps s g)
within_or_not ps s g = either_way _ (decides_within ps s g)

pub loopless_none : Loopless []
unfolding Loopless Below
loopless_none s b = b.1

-- fewer pairs, no new loop
pub loopless_fewer : (ps qs : List Pair) → Inside qs ps → Loopless ps → Loopless qs
unfolding Loopless Below
loopless_fewer ps qs fewer free s b = free s (b.0, fewer (pair s b.0) b.1, within_grows qs ps fewer b.0 s b.2)

module _ (ps : List Pair) (free : Loopless ps) where
  -- no pair leads up to what leads back
  pub loopless_apart : (m g : ℕ) → In (pair m g) ps → Within ps g m → ⊥
  unfolding Loopless
  loopless_apart m g i w = free m (below_step ps m g m i w)

  -- a pair whose group is not within its member makes no loop
  pub loopless_more : (m g : ℕ) → (Within ps g m → ⊥) → Loopless (pair m g ∷ ps)
  unfolding Loopless Below
  loopless_more m g apart s b = by b.1 (within_more ps m g b.0 s b.2)
    where
      by : In (pair s b.0) (pair m g ∷ ps) → Through ps m g b.0 s → ⊥
      by (inl e) (inl w) = apart (subst (λ x. Within ps x m) (ap (λ p. p.group) e) (subst (λ x. Within ps b.0 x) (ap (λ p. p.member) e) w))
      by (inl e) (inr v) = apart (subst (λ x. Within ps g x) (ap (λ p. p.member) e) v.1)
      by (inr i) (inl w) = free s (b.0, i, w)
      by (inr i) (inr v) = apart (within_trans ps g s m v.1 (within_step ps s b.0 m i v.0))
