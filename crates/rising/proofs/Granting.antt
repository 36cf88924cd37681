-- What the check of a list gives for the ceiling of what is made over it.
use Rattle.std.proofs.Common.{◌≡◌, ℕ, ◌≤◌, Some, None, Ok, Err, Result, MatchResult, sym, refl, inl, inr, ⊎_elim, arith}
use Rattle.std.proofs.lemmas.Bool.{cases_lt}
use Rattle.rights.specs.declared.faults.RoomFault.{RoomFault}
use Rattle.rights.specs.Checks.{First, fault_of}
use Rattle.rights.proofs.Checks.{some_none, first_unique}
use Rattle.rising.specs.Rooms.{room_checks, Granted}

module _ (limit places wanted : ℕ) where
  pub granted_fits : First (room_checks limit places wanted) None → Granted limit places wanted wanted
  granted_fits h = record { fits = λ _. refl; refused = λ f k. absurd (some_none f (first_unique (room_checks limit places wanted) (Some f) None k h)) }

  pub granted_refused : (f : RoomFault) → First (room_checks limit places wanted) (Some f) → Granted limit places wanted 0
  granted_refused f h = record { fits = λ k. absurd (some_none f (first_unique (room_checks limit places wanted) (Some f) None h k)); refused = λ _ _. refl }

  pub granted_room : First (room_checks limit places wanted) None → wanted ≤ places
  unfolding First
  granted_room (inl h) = absurd (some_none RoomFault.ShortList (sym h.1))
  granted_room (inr h) = ⊎_elim (λ l. absurd (h.0 l)) (λ l. l) (cases_lt places wanted)

  pub granted_limit : First (room_checks limit places wanted) None → wanted ≤ limit
  unfolding First
  granted_limit (inl h) = absurd (some_none RoomFault.ShortList (sym h.1))
  granted_limit (inr h) = ⊎_elim (λ k. absurd (some_none RoomFault.BadNumber (sym k.1))) (λ k. ⊎_elim (λ l. absurd (k.0 (inr l))) (λ l. l) (cases_lt limit wanted)) h.1

  -- by the answer that the check gave
  pub granted_by : (r : Result (Unit {0}) RoomFault) (n : ℕ) → First (room_checks limit places wanted) (fault_of r) → MatchResult r (λ _. n ≡ wanted) (λ _. n ≡ 0) →
      Granted limit places wanted n × ((n ≤ places) × (n ≤ limit))
  granted_by (Ok x) n h e = rw e (granted_fits h, (granted_room h, granted_limit h))
  granted_by (Err f) n h e = rw e (granted_refused f h, (omega arith, omega arith))
