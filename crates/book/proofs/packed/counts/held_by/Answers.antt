use Rattle.std.proofs.Common.{rules, sym, ap, ◌∙◌, arith}
use Rattle.std.specs.Option.{option_copied}
use Rattle.book.proofs.Counts.{last_tells, none_last}
use Rattle.book.proofs.packed.counts.held_by.Goals as goal

pub map_or-requires : goal.map_or-requires
map_or-requires c x is _ _ _ _ _ _ _ size =
    let tells = last_tells c.args.cells.now x.now c.requires.counted (sym c.last.ensures.value ∙ ap option_copied is) in
    omega (arith, size.ensures, c.requires.few)

pub returns : goal.returns
returns c = search (rules, last_tells, none_last)
