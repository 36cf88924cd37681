-- What the check of a list tells of a book made over it.
use Rattle.std.proofs.Common.{ℕ, ◌<◌, ◌≤◌, ◌⊎◌, Some, None, Option, refl, ap, inl, inr, ⊎_elim, arith}
use Rattle.std.specs.Option.{option_map}
use Rattle.std.proofs.lemmas.Bool.{cases_lt}
use Rattle.rights.specs.declared.faults.RoomFault.{RoomFault}
use Rattle.rights.specs.Checks.{First}
use Rattle.rights.proofs.Checks.{none_some}
use Rattle.rights.specs.Faults.{book_fault_of}
use Rattle.rising.specs.Rooms.{room_checks, Granted}
use Rattle.book.specs.Effects.{make_checks, Ceiling}

module _ (room wanted : ℕ) where
  -- a book refuses what the check of its list refuses
  pub checked : (r : Option RoomFault) → First (room_checks 4096 room wanted) r → First (make_checks room wanted) (option_map book_fault_of r)
  unfolding First
  checked r (inl h) = inl (h.0, ap (option_map book_fault_of) h.1)
  checked r (inr h) =
      ⊎_elim (λ k. inr (h.0, inl (k.0, ap (option_map book_fault_of) k.1))) (λ k. inr (h.0, inr (k.0, ap (option_map book_fault_of) k.1))) h.1

  settled : First (room_checks 4096 room wanted) None ⊎ ((f : RoomFault) × First (room_checks 4096 room wanted) (Some f))
  unfolding First
  settled =
      ⊎_elim (λ short. inr (RoomFault.ShortList, inl (short, refl)))
      (λ fits. ⊎_elim
      (λ some. ⊎_elim (λ above. inr (RoomFault.BadNumber, inr ((λ s. omega arith), inl (inr above, refl))))
      (λ within. inl (inr ((λ s. omega arith), inr (⊎_elim (λ z. omega arith) (λ a. omega arith), refl)))) (cases_lt 4096 wanted))
      (λ none. inr (RoomFault.BadNumber, inr ((λ s. omega arith), inl (inl (omega arith), refl)))) (cases_lt 0 wanted)) (cases_lt room wanted)

  pub granted_ceiling : (most : ℕ) → Granted 4096 room wanted most → Ceiling room wanted most
  granted_ceiling most g =
      ⊎_elim (λ h. inl (checked None h, g.fits h)) (λ h. inr (book_fault_of h.0, checked (Some h.0) h.1, g.refused h.0 h.1)) settled

-- what the check before a book is made tells of its ceiling
passed : (room wanted : ℕ) → First (make_checks room wanted) None → (wanted ≤ room) × (wanted ≤ 4096)
unfolding First
passed room wanted (inl h) = absurd (none_some _ h.1)
passed room wanted (inr h) =
    ⊎_elim (λ k. absurd (none_some _ k.1))
    (λ k. (let a = h.0 in omega arith, let b : 4096 < wanted → ⊥ = (λ l. k.0 (inr l)) in omega arith)) h.1

pub ceiling_fits : (room wanted most : ℕ) → Ceiling room wanted most → (most ≤ room) × (most ≤ 4096)
ceiling_fits room wanted most (inl h) = let p = passed room wanted h.0 in (omega (arith, h.1), omega (arith, h.1))
ceiling_fits room wanted most (inr h) = (omega (arith, h.2), omega (arith, h.2))
