-- What all entries of a cell share: the key of an entry, and that of a cell.
use Rattle.rights.specs.declared.entries.Entry.{Entry}
use Rattle.book.specs.declared.keyed.Cell.{Cell}
use Rattle.book.specs.declared.keyed.Key.{Key}

abbrev pub entry_key : Entry → Key
entry_key e = record { subject = e.subject; table = e.table; grantor = e.grantor }

abbrev pub cell_key : Cell → Key
cell_key c = record { subject = c.subject; table = c.table; grantor = c.grantor }
