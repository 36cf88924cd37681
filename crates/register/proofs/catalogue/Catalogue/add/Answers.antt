use Rattle.std.proofs.Common.{None, ap, ◌∙◌, get_or, arith}
use Rattle.register.proofs.Sound.{parts, sound_made}
use Rattle.register.proofs.Whole.{sound}
use Rattle.register.proofs.catalogue.Catalogue.add.Goals as goal

pub invariant_of-self : goal.invariant_of-self
invariant_of-self c =
    let s = c.args.self.now in
    let f = c.requires in
    parts (sound_made s.subjects s.tables c.from.result c.args.table (record { free = ap (λ k. get_or s.tables k None) c.from.ensures ∙ f.free; within = omega (arith, s.long, f.within); owned = f.owned; few = f.few; blank = f.blank; standing = f.standing; rising = f.rising; levelled = f.levelled; low = f.low }) (sound s))
