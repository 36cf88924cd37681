use Rattle.std.proofs.Common.{sym, ◌∙◌, subst}
use Rattle.reader.specs.Exactly.{Exactly}
use Rattle.reader.proofs.Made.{Made}
use Rattle.reader.proofs.Written.{reads_as}
use Rattle.reader.proofs.commands.read.Goals as goal

pub returns : goal.returns
returns c =
    let split = sym c.parts-parts.ensures.whole ∙ c.in_ok-next_part.ensures.first in
    let word = c.in_ok-word.word in
    let rest = c.numbers.new.list in
    let told = subst (λ ns. Exactly c.command_of.result (Made word ns)) c.deref.ensures.0 c.command_of.ensures in
    reads_as split word rest.items c.command_of.result ((c.word.ensures word).0 c.in_ok-word.was) c.in_ok-numbers.ensures told
