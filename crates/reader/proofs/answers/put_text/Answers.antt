use Rattle.std.proofs.Common.{arith}
use Rattle.reader.proofs.Placed.{put_part}
use Rattle.reader.proofs.answers.put_text.Goals as goal

pub returns : goal.returns
returns c = put_part c.args.at _ c.args.buffer.now c.copy_from_slice.new.self c.args.text.now c.copy_from_slice.ensures.after (omega arith)
