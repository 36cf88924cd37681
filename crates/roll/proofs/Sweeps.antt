-- A list gone over place by place: R holds of each place done, the others are as they were.
use Rattle.std.proofs.Common.{◌≡◌, ℕ, ◌<◌, ◌≤◌, List, length, get_or}

pub record Swept {X : Type 0} (e : X) (R : ℕ → X → X → Type 0) (old new : List X) (s : ℕ) : Type 0 where
  pub long : length new ≡ length old
  pub done : (k : ℕ) → k < s → R k (get_or old k e) (get_or new k e)
  pub left : (k : ℕ) → s ≤ k → get_or new k e ≡ get_or old k e
