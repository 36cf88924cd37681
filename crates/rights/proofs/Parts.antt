-- Laws of lists: membership, a list with one element more (Placed), parted in two (Parted).
use Rattle.std.proofs.Common.{◌≡◌, Bool, true, false, cond, not, List, [], ◌∷◌, ◌++◌, Decides, sym, refl, ap, ◌∙◌, subst, inl, inr}
use Rattle.std.specs.List.{AllByRecursion, filter}
use Rattle.std.proofs.lemmas.Bool.Decides.{not_from_Decides}
use Rattle.rights.specs.Lists.{In, Rising, Placed, Parted, none, keep, leave}
use Rattle.rights.proofs.Deciding.{OrNot, all_in}

module _ {X : Type 0} where
  pub in_left : (x : X) (xs ys : List X) → In x xs → In x (xs ++ ys)
  in_left x [] ys i = absurd i
  in_left x (y ∷ xs) ys (inl e) = inl e
  in_left x (y ∷ xs) ys (inr i) = inr (in_left x xs ys i)

  pub in_right : (x : X) (xs ys : List X) → In x ys → In x (xs ++ ys)
  in_right x [] ys i = i
  in_right x (y ∷ xs) ys i = inr (in_right x xs ys i)

  pub in_middle : (x : X) (xs ys : List X) → In x (xs ++ (x ∷ ys))
  in_middle x xs ys = in_right x xs (x ∷ ys) (inl refl)

-- what a list with one element more is, and what it was before, is settled by the element and the other list
module _ {X : Type 0} (Before : X → X → Type 0) (one_way : (x y : X) → Before x y → Before y x → ⊥) (x : X) where
  same_more : (f b f' b' : List X) → f ++ b ≡ f' ++ b' → Rising Before (f ++ (x ∷ b)) → Rising Before (f' ++ (x ∷ b')) → f ++ (x ∷ b) ≡ f' ++ (x ∷ b')
  same_more [] b [] b' e r r' = ap (λ l. x ∷ l) e
  same_more [] b (y ∷ f') b' e r r' = absurd (one_way x y (subst (AllByRecursion (Before x)) e r.0).0 (all_in (Before y) (f' ++ (x ∷ b')) r'.0 x (in_middle x f' b')))
  same_more (y ∷ f) b [] b' e r r' = absurd (one_way x y (subst (AllByRecursion (Before x)) (sym e) r'.0).0 (all_in (Before y) (f ++ (x ∷ b)) r.0 x (in_middle x f b)))
  same_more (y ∷ f) b (z ∷ f') b' e r r' = let s = same_more f b f' b' (cc) r.1 r'.1 in cc

  never : (y : X) → y ≡ x → Before y x → ⊥
  never y e k = let k = subst (λ z. Before z x) e k in one_way x x k k

  same_less : (f b f' b' : List X) → f ++ (x ∷ b) ≡ f' ++ (x ∷ b') → Rising Before (f ++ (x ∷ b)) → Rising Before (f' ++ (x ∷ b')) → f ++ b ≡ f' ++ b'
  same_less [] b [] b' e r r' = cc
  same_less [] b (y ∷ f') b' e r r' = absurd (never y (cc) (all_in (Before y) (f' ++ (x ∷ b')) r'.0 x (in_middle x f' b')))
  same_less (y ∷ f) b [] b' e r r' = absurd (never y (cc) (all_in (Before y) (f ++ (x ∷ b)) r.0 x (in_middle x f b)))
  same_less (y ∷ f) b (z ∷ f') b' e r r' = let s = same_less f b f' b' (cc) r.1 r'.1 in cc

  pub placed_same : (xs ys zs : List X) → Placed Before x xs ys → Placed Before x xs zs → ys ≡ zs
  unfolding Placed
  placed_same xs ys zs p q =
      p.3 ∙ same_more p.0 p.1 q.0 q.1 (sym p.2 ∙ q.2) (subst (Rising Before) p.3 p.4) (subst (Rising Before) q.3 q.4) ∙ sym q.3

  pub unplaced_same : (xs ys zs : List X) → Placed Before x xs zs → Placed Before x ys zs → xs ≡ ys
  unfolding Placed
  unplaced_same xs ys zs p q =
      p.2 ∙ same_less p.0 p.1 q.0 q.1 (sym p.3 ∙ q.3) (subst (Rising Before) p.3 p.4) (subst (Rising Before) q.3 q.4) ∙ sym q.2

-- a list is parted by a property in one way
module _ {X : Type 0} (Keeps : X → Type 0) where
  pub parted_same : {xs k o k' o' : List X} → Parted Keeps xs k o → Parted Keeps xs k' o' → (k ≡ k') × (o ≡ o')
  parted_same none none = (refl, refl)
  parted_same (keep {x = x} h p) (keep i q) = let s = parted_same p q in (ap (λ l. x ∷ l) s.0, s.1)
  parted_same (keep h p) (leave i q) = absurd (i h)
  parted_same (leave h p) (keep i q) = absurd (h i)
  parted_same (leave {x = x} h p) (leave i q) = let s = parted_same p q in (s.0, ap (λ l. x ∷ l) s.1)

  -- and is parted, where the property is decided of each element
  pub parted_total : (xs : List X) → ((x : X) → In x xs → OrNot (Keeps x)) → (kept : List X) × (out : List X) × Parted Keeps xs kept out
  parted_total [] d = ([], [], none)
  parted_total (x ∷ xs) d = by (d x (inl refl)) (parted_total xs (λ y i. d y (inr i)))
    where
      by : OrNot (Keeps x) → (kept : List X) × (out : List X) × Parted Keeps xs kept out → (kept : List X) × (out : List X) × Parted Keeps (x ∷ xs) kept out
      by (inl k) r = (x ∷ r.0, r.1, keep k r.2)
      by (inr n) r = (r.0, x ∷ r.1, leave n r.2)

  pub parted_kept : {xs kept out : List X} → Parted Keeps xs kept out → (x : X) → In x xs → Keeps x → In x kept
  parted_kept none x i k = absurd i
  parted_kept (keep h p) x (inl e) k = inl e
  parted_kept (keep h p) x (inr i) k = inr (parted_kept p x i k)
  parted_kept (leave h p) x (inl e) k = absurd (h (subst Keeps e k))
  parted_kept (leave h p) x (inr i) k = parted_kept p x i k

  pub kept_parted : {xs kept out : List X} → Parted Keeps xs kept out → (x : X) → In x kept → In x xs × Keeps x
  kept_parted none x i = absurd i
  kept_parted (keep h p) x (inl e) = (inl e, subst Keeps (sym e) h)
  kept_parted (keep h p) x (inr i) = let r = kept_parted p x i in (inr r.0, r.1)
  kept_parted (leave h p) x i = let r = kept_parted p x i in (inr r.0, r.1)

  -- by the test of the property
  pub parted_by : (f : X → Bool) (xs : List X) → ((x : X) → Decides (f x) (Keeps x)) → Parted Keeps xs (filter f xs) (filter (λ x. not (f x)) xs)
  parted_by f [] d = none
  parted_by f (x ∷ xs) d = by (f x) (d x) (parted_by f xs d)
    where
      by : (b : Bool) → Decides b (Keeps x) → {kept out : List X} → Parted Keeps xs kept out → Parted Keeps (x ∷ xs) (cond b (x ∷ kept) kept) (cond (not b) (x ∷ out) out)
      by true h p = keep (h.0 refl) p
      by false h p = leave (not_from_Decides false h refl) p
