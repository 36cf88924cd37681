-- A sound list of pairs with a pair more or less: it stays sound, and who is then within whom.
use Rattle.std.proofs.Common.{◌≡◌, ℕ, ◌≤◌, List, [], ◌∷◌, sym, subst, ⊎_elim, arith}
use Rattle.rights.specs.declared.entries.Pair.{Pair}
use Rattle.rights.specs.Lists.{In}
use Rattle.rights.specs.Pairs.{pair, Proper}
use Rattle.rights.specs.Within.{Within}
use Rattle.rights.proofs.Within.{Through, within_grows, within_more, within_through, loopless_none, loopless_fewer, loopless_more}
use Rattle.roll.specs.Pairs.{added, dropped}
use Rattle.roll.specs.Sound.{Sound, Kept}
use Rattle.roll.proofs.Lists.{all_in, all_from_in, in_added, added_in, in_dropped, rising_added, rising_dropped}

pub sound_none : Sound []
sound_none = record { rising = tt; proper = tt; loopless = loopless_none }

module _ (ps : List Pair) (m g : ℕ) where
  pub sound_added : Sound ps → Proper (pair m g) → (In (pair m g) ps → ⊥) → (Within ps g m → ⊥) → Sound (added (pair m g) ps)
  sound_added old proper new apart = record {
    rising = rising_added (pair m g) ps old.rising new;
    proper = all_from_in Proper (added (pair m g) ps) (λ x i. ⊎_elim (λ e. subst Proper (sym e) proper) (all_in Proper ps x old.proper) (in_added (pair m g) ps x i));
    loopless = loopless_fewer (pair m g ∷ ps) (added (pair m g) ps) (in_added (pair m g) ps) (loopless_more ps old.loopless m g apart);
  }

  pub sound_dropped : Sound ps → Sound (dropped (pair m g) ps)
  sound_dropped old = record {
    rising = rising_dropped (pair m g) ps old.rising;
    proper = all_from_in Proper (dropped (pair m g) ps) (λ x i. all_in Proper ps x old.proper (in_dropped (pair m g) ps x i));
    loopless = loopless_fewer ps (dropped (pair m g) ps) (in_dropped (pair m g) ps) old.loopless;
  }

  -- a put opens the ways through the new pair, and no other
  pub within_added : (s h : ℕ) → Within (added (pair m g) ps) s h → Through ps m g s h
  within_added s h w = within_more ps m g s h (within_grows (added (pair m g) ps) (pair m g ∷ ps) (in_added (pair m g) ps) s h w)

  pub added_within : (s h : ℕ) → Through ps m g s h → Within (added (pair m g) ps) s h
  added_within s h w = within_grows (pair m g ∷ ps) (added (pair m g) ps) (added_in (pair m g) ps) s h (within_through ps m g s h w)

pub kept_none : (ps : List Pair) (ceiling : ℕ) → ps ≡ [] → ceiling ≤ 2048 → Kept ps ceiling
kept_none ps ceiling none limit = rw none (record { sound = sound_none; few = omega arith; limit = limit })
