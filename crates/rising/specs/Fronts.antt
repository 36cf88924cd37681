-- The front of a caller's list: the first places, as many as are used.
-- stored: what stands in them. whole: the caller's list, to its end. SameRest: past the places used nothing changed.
-- Refilled: what a change leaves, in the places used and past them.
use Rattle.std.specs.Prelude.{◌≡◌, List, length, take, drop}
use Rattle.rising.specs.declared.fronts.Front.{Front}

abbrev pub stored : {X : Type 0} → Front X → List X
stored f = take f.used f.list.now

abbrev pub whole : {X : Type 0} → Front X → List X
whole f = f.list.now

-- past the places used after, each place of the list holds what it held before
abbrev pub SameRest : {X : Type 0} → Front X → Front X → Type 0
SameRest f after = drop after.used after.list.now ≡ drop after.used f.list.now

-- after the change xs stands, the list is as long as before, and its rest is as it was
pub record Refilled {X : Type 0} (f : Front X) (xs : List X) (after : Front X) : Type 0 where
  pub holds : stored after ≡ xs
  pub long : length (whole after) ≡ length (whole f)
  pub rest : SameRest f after
