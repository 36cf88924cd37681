use Rattle.std.proofs.Common.{◌≡◌, None, get_or, rules, arith}
use Rattle.register.proofs.Sound.{parts, sound_enrol}
use Rattle.register.proofs.Whole.{sound}
use Rattle.register.proofs.catalogue.Catalogue.enrol.Goals as goal

pub invariant_of-self : goal.invariant_of-self
invariant_of-self c =
    let s = c.args.self.now in
    let free : get_or s.subjects c.from.result None ≡ None = search rules in
    parts (sound_enrol s.subjects s.tables c.from.result c.args.subject free (omega arith) (sound s))
