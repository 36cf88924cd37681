-- The invariant that a catalogue carries, as one record. Assumes nothing.
use Rattle.register.specs.declared.catalogue.Catalogue.{Catalogue}
use Rattle.register.proofs.Sound.{Sound}

pub sound : (c : Catalogue) → Sound c.subjects c.tables
sound c = record { wide = c.wide; long = c.long; office = c.office; owned = c.owned; few = c.few; blank = c.blank; standing = c.standing; rising = c.rising; levelled = c.levelled; low = c.low }
