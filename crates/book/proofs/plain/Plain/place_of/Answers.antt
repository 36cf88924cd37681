use Rattle.std.proofs.Common.{sym, subst}
use Rattle.rights.specs.Entries.{RisingEntries}
use Rattle.rights.proofs.Order.{sound_rises}
use Rattle.book.specs.Places.{Finding}
use Rattle.book.proofs.Finds.{found_entry}
use Rattle.book.proofs.plain.Plain.place_of.Goals as goal

pub returns : goal.returns
returns c =
    let facts = c.binary_search.ensures in
    let up = subst RisingEntries (sym c.as_slice.ensures) (sound_rises _ c.args.self.now.rises) in
    subst (λ l. Finding c.args.e l c.binary_search.result) c.as_slice.ensures (found_entry c.args.e c.as_slice.result.now c.binary_search.result up facts.bound facts.position)
