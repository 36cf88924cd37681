use Rattle.std.proofs.Common.{refl, inl, inr, ⊎_elim, arith}
use Rattle.rights.proofs.Checks.{first_hit, first_miss, first_none}
use Rattle.rising.proofs.rooms.check_room.Goals as goal

pub returns-then-places-wanted : goal.returns-then-places-wanted
returns-then-places-wanted c = first_hit _ _ c.if-places-wanted.true

pub returns-then-wanted-eq0 : goal.returns-then-wanted-eq0
returns-then-wanted-eq0 c = first_miss _ _ _ (λ l. omega arith) (first_hit _ _ (⊎_elim inl (λ h. inr h.1) c.then-wanted-eq0.either))

pub returns : goal.returns
returns c = first_miss _ _ _ (λ l. omega arith) (first_miss _ _ _ (⊎_elim (λ e. omega arith) (λ l. omega arith)) (first_none _ refl))
