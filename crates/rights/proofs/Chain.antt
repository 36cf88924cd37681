-- Laws of chains. They grow with what stands; the entries with a chain are the least set that holds every
-- standing entry supported by members of it; marking one supported entry after the other finds them all.
use Rattle.std.proofs.Common.{◌≡◌, ℕ, zero, suc, ◌≤◌, Bool, true, false, not, eqb, ◌⊎◌, List, [], ◌∷◌, ◌++◌, length, Decides, sym, refl, ap, subst, inl, inr, ⊎_elim, arith}
use Rattle.std.specs.List.{filter, list_any}
use Rattle.std.proofs.lemmas.Bool.{cases_Bool, not_from_false}
use Rattle.std.proofs.lemmas.Bool.Decides.{Decides-eqb, Decides-not, Decides-like}
use Rattle.std.proofs.lemmas.List.Filters.{length-filter_both}
use Rattle.rights.specs.declared.entries.Entry.{Entry}
use Rattle.rights.specs.Chain.{Chain, HasChain, Others, Revoked}
use Rattle.rights.specs.Cover.{Supported}
use Rattle.rights.specs.Entries.{same_entry}
use Rattle.rights.specs.Lists.{In, Parted, Inside}
use Rattle.rights.specs.Tables.{Tables, unmade, Names, Levelled, Extends}
use Rattle.rights.proofs.Cover.{supported_grows, supported_extends, supported_apart, supported_test, decides_supported}
use Rattle.rights.proofs.Deciding.{OrNot, decides_in, in_filter, filter_in, either_way}
use Rattle.rights.proofs.Order.{decides_same}
use Rattle.rights.proofs.Parts.{in_left, in_right, parted_same, parted_by, parted_kept, kept_parted}
use Rattle.rights.proofs.Tables.{levels_of}

-- marking by a test of support, round after round: the rest that the marked support join them, until none does
abbrev pub onward : (List Entry → List Entry) → List Entry → List Entry → List Entry
onward next marked [] = marked
onward next marked (x ∷ more) = next (x ∷ more)

abbrev pub marks : (List Entry → Entry → Bool) → ℕ → List Entry → List Entry → List Entry
marks test zero marked rest = marked
marks test (suc n) marked rest = onward (λ more. marks test n (more ++ marked) (filter (λ e. not (test marked e)) rest)) marked (filter (test marked) rest)

-- whether e is one of those marked
abbrev pub among : List Entry → Entry → Bool
among l e = list_any (λ f. same_entry e f) l

-- whether e has a chain among the entries of a list, and among those other than the named one, by a test of support
abbrev pub chain_test : (List Entry → Entry → Bool) → List Entry → Entry → Bool
chain_test test entries = among (marks test (length entries) [] entries)

abbrev pub others_of : Entry → List Entry → List Entry
others_of named entries = filter (λ e. not (same_entry e named)) entries

-- what stands and what is supported there stands and is supported here
chain_like : (tables more : Tables) (Standing More : Entry → Type 0) → ((e : Entry) → Standing e → More e) → ((l : List Entry) (e : Entry) → Supported tables l e → Supported more l e) → (l : List Entry) → Chain tables Standing l → Chain more More l
chain_like tables more Standing More stand support [] c = tt
chain_like tables more Standing More stand support (e ∷ l) c = (stand e c.0, support l e c.1, chain_like tables more Standing More stand support l c.2)

module _ (tables : Tables) where
  -- the more stands, the more entries have a chain
  pub has_chain_grows : (Standing More : Entry → Type 0) → ((e : Entry) → Standing e → More e) → (e : Entry) → HasChain tables Standing e → HasChain tables More e
  unfolding HasChain
  has_chain_grows Standing More more e c = (c.0, chain_like tables tables Standing More more (λ _ _ s. s) (e ∷ c.0) c.1)

  module _ (Standing : Entry → Type 0) where
    chain_join : (l m : List Entry) → Chain tables Standing l → Chain tables Standing m → Chain tables Standing (l ++ m)
    chain_join [] m c d = d
    chain_join (e ∷ l) m c d = (c.0, supported_grows tables l (l ++ m) (λ x i. in_left x l m i) e c.1, chain_join l m c.2 d)

    -- every entry of a chain ends a chain
    pub chain_members : (l : List Entry) → Chain tables Standing l → (e : Entry) → In e l → HasChain tables Standing e
    unfolding HasChain
    chain_members [] c e i = absurd i
    chain_members (x ∷ l) c e (inl q) = subst (HasChain tables Standing) (sym q) (l, c)
    chain_members (x ∷ l) c e (inr i) = chain_members l c.2 e i

    pub has_chain_stands : (e : Entry) → HasChain tables Standing e → Standing e
    unfolding HasChain
    has_chain_stands e c = c.1.0

    -- an entry with a chain is supported by entries that have one
    pub has_chain_supported : (e : Entry) → HasChain tables Standing e → (l : List Entry) × ((f : Entry) → In f l → HasChain tables Standing f) × Supported tables l e
    unfolding HasChain
    has_chain_supported e c = (c.0, chain_members c.0 c.1.2, c.1.1)

    -- one chain for all of a list
    chain_of_all : (l : List Entry) → ((f : Entry) → In f l → HasChain tables Standing f) → (m : List Entry) × Chain tables Standing m × Inside l m
    unfolding HasChain
    chain_of_all [] h = ([], tt, λ f i. absurd i)
    chain_of_all (e ∷ l) h = let r = chain_of_all l (λ f i. h f (inr i)) in let c = h e (inl refl) in ((e ∷ c.0) ++ r.0, chain_join (e ∷ c.0) r.0 c.1 r.1, among r c)
      where
        among : (r : (m : List Entry) × Chain tables Standing m × Inside l m) (c : (k : List Entry) × Chain tables Standing (e ∷ k)) → Inside (e ∷ l) ((e ∷ c.0) ++ r.0)
        among r c f (inl q) = inl q
        among r c f (inr i) = in_right f (e ∷ c.0) r.0 (r.2 f i)

    -- a standing entry that is supported by entries with a chain has one
    pub supported_has_chain : (e : Entry) → Standing e → (l : List Entry) → ((f : Entry) → In f l → HasChain tables Standing f) → Supported tables l e → HasChain tables Standing e
    unfolding HasChain
    supported_has_chain e s l h u = let r = chain_of_all l h in (r.0, (s, supported_grows tables l r.0 r.2 e u, r.1))

    -- what holds of every standing entry supported by entries of which it holds, holds of all with a chain
    pub has_chain_least : (P : Entry → Type 0) → ((e : Entry) → Standing e → (l : List Entry) → ((f : Entry) → In f l → P f) → Supported tables l e → P e) → (e : Entry) → HasChain tables Standing e → P e
    unfolding HasChain
    has_chain_least P step e c = along (e ∷ c.0) c.1 e (inl refl)
      where
        along : (l : List Entry) → Chain tables Standing l → (f : Entry) → In f l → P f
        along [] d f i = absurd i
        along (x ∷ l) d f (inl q) = subst P (sym q) (step x d.0 l (along l d.2) d.1)
        along (x ∷ l) d f (inr i) = along l d.2 f i

    -- a round of marking that marks nothing new has marked every entry with a chain
    pub closed_round : (marked : List Entry) → ((e : Entry) → Standing e → Supported tables marked e → In e marked) → (e : Entry) → HasChain tables Standing e → In e marked
    closed_round marked closed = has_chain_least (λ e. In e marked) (λ e s l h u. closed e s (supported_grows tables l marked h e u))

    -- and where only entries with a chain were marked, just those
    pub closed_round_exact : (marked : List Entry) → ((e : Entry) → In e marked → HasChain tables Standing e) → ((e : Entry) → Standing e → Supported tables marked e → In e marked) → (e : Entry) → (In e marked → HasChain tables Standing e) × (HasChain tables Standing e → In e marked)
    closed_round_exact marked sound closed e = (sound e, closed_round marked closed e)

    -- what marking keeps true: the marked are a chain, and what stands is marked or in the rest
    pub record Marking (marked rest : List Entry) : Type 0 where
      pub chain : Chain tables Standing marked
      pub stand : (e : Entry) → In e rest → Standing e
      pub every : (e : Entry) → Standing e → In e marked ⊎ In e rest

    -- just the entries with a chain
    pub record Marked (l : List Entry) : Type 0 where
      pub sound : (e : Entry) → In e l → HasChain tables Standing e
      pub complete : (e : Entry) → HasChain tables Standing e → In e l

    marking_done : (marked rest : List Entry) → Marking marked rest → ((e : Entry) → In e rest → Supported tables marked e → ⊥) → Marked marked
    marking_done marked rest m nothing =
        record {
          sound = chain_members marked m.chain;
          complete = closed_round marked (λ e s u. ⊎_elim (λ i. i) (λ i. absurd (nothing e i u)) (m.every e s));
        }

    chain_more : (marked more : List Entry) → Chain tables Standing marked → ((e : Entry) → In e more → Standing e × Supported tables marked e) → Chain tables Standing (more ++ marked)
    chain_more marked [] c h = c
    chain_more marked (e ∷ more) c h =
        let k = h e (inl refl) in
        (k.0, supported_grows tables marked (more ++ marked) (λ x i. in_right x more marked i) e k.1, chain_more marked more c (λ x i. h x (inr i)))

  module _ (Standing : Entry → Type 0) (test : List Entry → Entry → Bool) (judges : (m : List Entry) (e : Entry) → Decides (test m e) (Supported tables m e)) where
    marking_more : (marked rest : List Entry) → Marking Standing marked rest → Marking Standing (filter (test marked) rest ++ marked) (filter (λ e. not (test marked e)) rest)
    marking_more marked rest m =
        record {
          chain = chain_more Standing marked (filter (test marked) rest) m.chain (λ e i. let h = filter_in (test marked) rest e i in (m.stand e h.0, (judges marked e).0 h.1));
          stand = λ e i. m.stand e (filter_in (λ e. not (test marked e)) rest e i).0;
          every = λ e s. ⊎_elim (λ i. inl (in_right e (filter (test marked) rest) marked i)) (λ i. split e i (cases_Bool (test marked e))) (m.every e s);
        }
      where
        split : (e : Entry) → In e rest → (test marked e ≡ true) ⊎ (test marked e ≡ false) → In e (filter (test marked) rest ++ marked) ⊎ In e (filter (λ e. not (test marked e)) rest)
        split e i (inl t) = inl (in_left e (filter (test marked) rest) marked (in_filter (test marked) rest e i t))
        split e i (inr f) = inr (in_filter (λ e. not (test marked e)) rest e i (not_from_false _ f))

    -- the rest's length is rounds enough, since each round takes some entry from it
    pub marks_all : (n : ℕ) (marked rest : List Entry) → length rest ≤ n → Marking Standing marked rest → Marked Standing (marks test n marked rest)
    marks_all zero marked [] h m = marking_done Standing marked [] m (λ e i. absurd i)
    marks_all zero marked (x ∷ rest) h m = absurd (omega arith)
    marks_all (suc n) marked rest h m = by (filter (test marked) rest) refl (λ a l. marks_all n a l)
      where
        left : List Entry
        left = filter (λ e. not (test marked e)) rest

        by : (more : List Entry) → filter (test marked) rest ≡ more → ((a l : List Entry) → length l ≤ n → Marking Standing a l → Marked Standing (marks test n a l)) → Marked Standing (onward (λ more. marks test n (more ++ marked) left) marked more)
        by [] e next = marking_done Standing marked rest m (λ x i u. subst (In x) e (in_filter (test marked) rest x i ((judges marked x).1 u)))
        by (x ∷ more) e next =
            let both = length-filter_both (test marked) (λ e. not (test marked e)) (λ _. refl) rest in
            let some = ap length e in
            next ((x ∷ more) ++ marked) left (omega arith) (subst (λ l. Marking Standing (l ++ marked) left) e (marking_more marked rest m))

  marked_decides : (Standing : Entry → Type 0) (l : List Entry) → Marked Standing l → (e : Entry) → Decides (among l e) (HasChain tables Standing e)
  marked_decides Standing l m e = Decides-like _ (m.sound e) (m.complete e) (decides_in same_entry decides_same e l)

  module _ (test : List Entry → Entry → Bool) (judges : (m : List Entry) (e : Entry) → Decides (test m e) (Supported tables m e)) where
    -- where the entries are those that stand
    decides_chain_in : (Standing : Entry → Type 0) (entries : List Entry) → ((e : Entry) → In e entries → Standing e) → ((e : Entry) → Standing e → In e entries) → (e : Entry) → Decides (chain_test test entries e) (HasChain tables Standing e)
    decides_chain_in Standing entries stand every =
        marked_decides Standing _ (marks_all Standing test judges (length entries) [] entries (omega arith) (record { chain = tt; stand = stand; every = λ e s. inr (every e s) }))

    pub decides_chain : (entries : List Entry) (e : Entry) → Decides (chain_test test entries e) (HasChain tables (λ f. In f entries) e)
    decides_chain entries = decides_chain_in (λ f. In f entries) entries (λ _ i. i) (λ _ i. i)

    pub decides_others : (named : Entry) (entries : List Entry) (e : Entry) → Decides (chain_test test (others_of named entries) e) (HasChain tables (Others entries named) e)
    decides_others named entries =
        decides_chain_in (Others entries named) (others_of named entries)
        (λ e i. let h = filter_in differs entries e i in (h.0, (decides_differs e).0 h.1))
        (λ e s. in_filter differs entries e s.0 ((decides_differs e).1 s.1))
      where
        differs : Entry → Bool
        differs e = not (same_entry e named)

        decides_differs : (e : Entry) → Decides (not (same_entry e named)) (e ≡ named → ⊥)
        decides_differs e = Decides-not _ (decides_same e named)

    -- what a revocation keeps and strikes, by the test
    pub revoked_by : (named : Entry) (entries : List Entry) → Revoked tables named entries (filter (chain_test test (others_of named entries)) entries) (filter (λ e. not (chain_test test (others_of named entries) e)) entries)
    unfolding Revoked
    revoked_by named entries = parted_by (HasChain tables (Others entries named)) _ entries (decides_others named entries)

  -- a revocation keeps and strikes in one way only
  pub revoked_same : (named : Entry) (entries kept struck kept' struck' : List Entry) → Revoked tables named entries kept struck → Revoked tables named entries kept' struck' → (kept ≡ kept') × (struck ≡ struck')
  unfolding Revoked
  revoked_same named entries kept struck kept' struck' p q = parted_same (HasChain tables (Others entries named)) p q

  -- what is kept has a chain in what is kept
  pub kept_upheld : (named : Entry) (entries kept struck : List Entry) → Revoked tables named entries kept struck → (e : Entry) → In e kept → HasChain tables (λ f. In f kept) e
  unfolding Revoked
  kept_upheld named entries kept struck p e i =
      (has_chain_least Standing Both step e (kept_parted (HasChain tables Standing) p e i).1).1
    where
      Standing : Entry → Type 0
      Standing = Others entries named

      Both : Entry → Type 0
      Both f = HasChain tables Standing f × HasChain tables (λ g. In g kept) f

      step : (f : Entry) → Standing f → (l : List Entry) → ((g : Entry) → In g l → Both g) → Supported tables l f → Both f
      step f s l h u =
          let c = supported_has_chain Standing f s l (λ g j. (h g j).0) u in
          (c, supported_has_chain (λ g. In g kept) f (parted_kept (HasChain tables Standing) p f s.0 c) l (λ g j. (h g j).1) u)

  -- a grant that is supported has a chain, and takes none away
  pub granted_upheld : (entries : List Entry) (e : Entry) → ((f : Entry) → In f entries → HasChain tables (λ g. In g entries) f) → Supported tables entries e → (f : Entry) → In f (e ∷ entries) → HasChain tables (λ g. In g (e ∷ entries)) f
  granted_upheld entries e all u f (inl q) = subst (HasChain tables (λ g. In g (e ∷ entries))) (sym q) (supported_has_chain (λ g. In g (e ∷ entries)) e (inl refl) entries (λ g j. has_chain_grows (λ x. In x entries) (λ x. In x (e ∷ entries)) (λ _ k. inr k) g (all g j)) u)
  granted_upheld entries e all u f (inr i) = has_chain_grows (λ x. In x entries) (λ x. In x (e ∷ entries)) (λ _ k. inr k) f (all f i)

  -- the named entry is always struck
  pub revoked_named : (named : Entry) (entries kept struck : List Entry) → Revoked tables named entries kept struck → In named kept → ⊥
  unfolding Revoked
  revoked_named named entries kept struck p i = (has_chain_stands (Others entries named) named (kept_parted (HasChain tables (Others entries named)) p named i).1).1 refl

-- where every table that stands has a level, chains are decidable, and a revocation has an outcome
module _ (tables : Tables) (levels : Levelled tables) where
  support_test : List Entry → Entry → Bool
  support_test m e = supported_test tables (levels_of tables levels e.table).0 m e

  support_judges : (m : List Entry) (e : Entry) → Decides (support_test m e) (Supported tables m e)
  unfolding support_test
  support_judges m e = decides_supported tables _ m e (levels_of tables levels e.table).1

  pub chain_or_not : (entries : List Entry) (e : Entry) → OrNot (HasChain tables (λ f. In f entries) e)
  chain_or_not entries e = either_way _ (decides_chain tables support_test support_judges entries e)

  pub revoked_total : (named : Entry) (entries : List Entry) → (kept : List Entry) × (struck : List Entry) × Revoked tables named entries kept struck
  revoked_total named entries = (_, _, revoked_by tables support_test support_judges named entries)

-- chains stay when tables are made
module _ (tables more : Tables) (keeps : Extends tables more) (Standing : Entry → Type 0) where
  pub has_chain_extends : (e : Entry) → HasChain tables Standing e → HasChain more Standing e
  unfolding HasChain
  has_chain_extends e c = (c.0, chain_like tables more Standing Standing (λ _ s. s) (supported_extends tables more keeps) (e ∷ c.0) c.1)

-- and those of entries on other tables when one is dropped that no view names
pub dropped_upheld : (tables : Tables) (t : ℕ) → ((v : ℕ) → Names tables v t → ⊥) → (entries kept out : List Entry) → Parted (λ (e : Entry). e.table ≡ t → ⊥) entries kept out → ((e : Entry) → In e entries → HasChain tables (λ f. In f entries) e) → (e : Entry) → In e kept → HasChain (unmade t tables) (λ f. In f kept) e
dropped_upheld tables t free entries kept out p all e i =
    let k = kept_parted (λ (e : Entry). e.table ≡ t → ⊥) p e i in
    has_chain_least tables (λ f. In f entries) Left step e (all e k.0) k.1
  where
    Left : Entry → Type 0
    Left f = (f.table ≡ t → ⊥) → HasChain (unmade t tables) (λ g. In g kept) f

    elsewhere : Entry → Bool
    elsewhere f = not (eqb f.table t)

    decides_elsewhere : (f : Entry) → Decides (elsewhere f) (f.table ≡ t → ⊥)
    decides_elsewhere f = Decides-not _ (Decides-eqb f.table t)

    step : (f : Entry) → In f entries → (l : List Entry) → ((g : Entry) → In g l → Left g) → Supported tables l f → Left f
    step f s l h u apart =
        supported_has_chain (unmade t tables) (λ g. In g kept) f (parted_kept (λ (e : Entry). e.table ≡ t → ⊥) p f s apart) (filter elsewhere l)
        (λ g j. let r = filter_in elsewhere l g j in h g r.0 ((decides_elsewhere g).0 r.1))
        (supported_apart tables t free l (filter elsewhere l) (λ g j n. in_filter elsewhere l g j ((decides_elsewhere g).1 n)) f u apart)
