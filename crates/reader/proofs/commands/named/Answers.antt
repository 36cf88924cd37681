use Rattle.reader.proofs.Made.{named_read}
use Rattle.reader.proofs.commands.named.Goals as goal

pub returns : goal.returns
returns c = named_read c.args.list.now c.try_from.result c.ok.result c.ok.ensures.value c.try_from.ensures
