-- What the check of the caller's list gives for a roll: its refusals and its ceiling.
use Rattle.std.proofs.Common.{ℕ, Some, None, Option, sym, refl, ap, inl, inr, ⊎_elim}
use Rattle.std.specs.Option.{option_map}
use Rattle.rights.specs.declared.faults.RollFault.{RollFault}
use Rattle.rights.specs.declared.faults.RoomFault.{RoomFault}
use Rattle.rights.specs.Checks.{First}
use Rattle.rights.specs.Faults.{roll_fault_of}
use Rattle.rights.proofs.Checks.{some_none}
use Rattle.rising.specs.Rooms as rooms
use Rattle.roll.specs.Refusals.{make_checks, Granted}

module _ (places wanted : ℕ) where
  -- the refusals of the check are the roll's
  pub make_refusals : (r : Option RoomFault) → First (rooms.room_checks 2048 places wanted) r → First (make_checks places wanted) (option_map roll_fault_of r)
  unfolding First
  make_refusals r (inl h) = inl (h.0, ap (option_map roll_fault_of) h.1)
  make_refusals r (inr h) = inr (h.0, ⊎_elim (λ k. inl (k.0, ap (option_map roll_fault_of) k.1)) (λ k. inr (k.0, ap (option_map roll_fault_of) k.1)) h.1)

  passed : First (make_checks places wanted) None → First (rooms.room_checks 2048 places wanted) None
  unfolding First
  passed (inl h) = absurd (some_none RollFault.ShortList (sym h.1))
  passed (inr h) = inr (h.0, ⊎_elim (λ k. absurd (some_none RollFault.BadNumber (sym k.1))) (λ k. inr (k.0, refl)) h.1)

  stopped : (f : RollFault) → First (make_checks places wanted) (Some f) → (g : RoomFault) × First (rooms.room_checks 2048 places wanted) (Some g)
  unfolding First
  stopped f (inl h) = (RoomFault.ShortList, inl (h.0, refl))
  stopped f (inr h) = ⊎_elim (λ k. (RoomFault.BadNumber, inr (h.0, inl (k.0, refl)))) (λ k. absurd (some_none f k.1)) h.1

  -- and so is its ceiling
  pub make_granted : (ceiling : ℕ) → rooms.Granted 2048 places wanted ceiling → Granted places wanted ceiling
  make_granted ceiling g = record { fits = λ h. g.fits (passed h); refused = λ f h. let s = stopped f h in g.refused s.0 s.1 }
