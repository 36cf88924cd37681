-- A pair more at its place, and a list without one place: what a put and a take leave, which is kept well.
use Rattle.std.proofs.Common.{◌≡◌, ◌↔◌, ℕ, ◌+◌, ◌<◌, ◌≤◌, true, IsOk, OnOk, OnSome, Option, Result, List, length, take, drop, sym, ◌∙◌, subst, arith}
use Rattle.std.specs.List.{slice_get, insert, remove, AllByRecursion}
use Rattle.std.proofs.ByRecursion.{All-from_get_or}
use Rattle.std.proofs.lemmas.List.{get_or-take, get_or-drop, length-take-le, length-drop}
use Rattle.std.proofs.lemmas.Option.{slice_get_within, get_or_from_slice_get}
use Rattle.rights.specs.declared.entries.Pair.{Pair}
use Rattle.rights.specs.Lists.{In}
use Rattle.rights.specs.Pairs.{RisingPairs}
use Rattle.rising.specs.Fronts.{stored, whole, SameRest, Refilled}
use Rattle.rising.specs.declared.fronts.Front.{Front}
use Rattle.roll.specs.Pairs.{before, added, dropped}
use Rattle.roll.specs.Places.{StandsAt, Gap}
use Rattle.roll.specs.Refusals.{Addable}
use Rattle.roll.specs.Sound.{Kept}
use Rattle.roll.proofs.Lists.{added_at, dropped_at, length_added, length_dropped}
use Rattle.roll.proofs.Orders.{before_so}
use Rattle.roll.proofs.Places.{stands_in}
use Rattle.roll.proofs.Puts.{on_ok}
use Rattle.roll.proofs.Sounds.{sound_added, sound_dropped}

-- a pair that does not stand is added where it would stand
pub gap_added : (ps : List Pair) (p : Pair) (k : ℕ) → Gap ps p k → added p ps ≡ insert ps k p
gap_added ps p k gap = added_at p ps k below above
  where
    below : AllByRecursion (λ q. before q p ≡ true) (take k ps)
    below = All-from_get_or (λ q. before q p ≡ true) (take k ps) p (λ i l.
        let h : i < k = omega (arith, length-take-le k ps gap.inside) in
        subst (λ x. before x p ≡ true) (sym (get_or-take k ps i p h)) (before_so _ _ (gap.below i p (omega arith) h)))

    above : AllByRecursion (λ q. before p q ≡ true) (drop k ps)
    above = All-from_get_or (λ q. before p q ≡ true) (drop k ps) p (λ i l.
        let h : k + i < length ps = omega (arith, length-drop k ps) in
        subst (λ x. before p x ≡ true) (sym (get_or-drop k ps i p)) (before_so _ _ (gap.above (k + i) p (omega arith) h)))

pub kept_added : (ps : List Pair) (p : Pair) (ceiling : ℕ) → Kept ps ceiling → length ps < ceiling → Addable ps p → Kept (added p ps) ceiling
kept_added ps p ceiling old room may = record {
  sound = sound_added ps p.member p.group old.sound may.proper may.new may.apart;
  few = omega (arith, length_added p ps);
  limit = old.limit;
}

pub kept_dropped : (ps : List Pair) (p : Pair) (ceiling : ℕ) → Kept ps ceiling → In p ps → Kept (dropped p ps) ceiling
kept_dropped ps p ceiling old here = record {
  sound = sound_dropped ps p.member p.group old.sound;
  few = omega (arith, old.few, length_dropped p ps here);
  limit = old.limit;
}

pub stands_dropped : (ps : List Pair) (p : Pair) (k : ℕ) → RisingPairs ps → StandsAt ps p k → dropped p ps ≡ remove ps k
stands_dropped ps p k up at = dropped_at p ps k p up (slice_get_within ps k p at) (get_or_from_slice_get ps k p p at)

-- after an insertion that had room
pub record PutIn (f after : Front Pair) (most : ℕ) (p : Pair) (r : Result (Unit {0}) Pair) : Type 0 where
  pub went : IsOk r
  pub adds : stored after ≡ added p (stored f)
  pub room : most ≤ length (whole after)
  pub kept : Kept (stored after) most
  pub rest : SameRest f after

pub put_in : (f after : Front Pair) (most k : ℕ) (p : Pair) (r : Result (Unit {0}) Pair) → most ≤ length (whole f) → Kept (stored f) most → Gap (stored f) p k → Addable (stored f) p → (length (stored f) ≡ most → ⊥) →
    IsOk r ↔ ((k ≤ length (stored f)) × (length (stored f) < length (whole f))) → OnOk r (Refilled f (insert (stored f) k p) after) → PutIn f after most p r
put_in f after most k p r room kept gap may part done ok = record {
  went = went;
  adds = adds;
  room = omega (arith, fill.long, room);
  kept = subst (λ K. Kept K most) (sym adds) (kept_added (stored f) p most kept less may);
  rest = fill.rest;
}
  where
    less : length (stored f) < most
    less = omega (arith, kept.few, part)

    went : IsOk r
    went = done.1 (gap.inside, omega (arith, less, room))

    fill : Refilled f (insert (stored f) k p) after
    fill = on_ok r _ went ok

    adds : stored after ≡ added p (stored f)
    adds = fill.holds ∙ sym (gap_added (stored f) p k gap)

-- after a removal of what stood there
pub record TakenOut (f after : Front Pair) (most : ℕ) (p : Pair) : Type 0 where
  pub drops : stored after ≡ dropped p (stored f)
  pub room : most ≤ length (whole after)
  pub kept : Kept (stored after) most
  pub rest : SameRest f after

pub taken_out : (f after : Front Pair) (most k : ℕ) (p : Pair) (o : Option Pair) → most ≤ length (whole f) → Kept (stored f) most → StandsAt (stored f) p k → o ≡ slice_get (stored f) k → OnSome o (Refilled f (remove (stored f) k) after) → TakenOut f after most p
taken_out f after most k p o room kept at is some = record {
  drops = drops;
  room = omega (arith, fill.long, room);
  kept = subst (λ K. Kept K most) (sym drops) (kept_dropped (stored f) p most kept (stands_in (stored f) p k at));
  rest = fill.rest;
}
  where
    fill : Refilled f (remove (stored f) k) after
    fill = subst (λ x. OnSome x (Refilled f (remove (stored f) k) after)) (is ∙ at) some

    drops : stored after ≡ dropped p (stored f)
    drops = fill.holds ∙ sym (stands_dropped (stored f) p k kept.sound.rising at)
