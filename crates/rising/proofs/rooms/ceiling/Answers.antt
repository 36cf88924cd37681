use Rattle.std.proofs.Common.{rules}
use Rattle.rising.proofs.Granting.{granted_by}
use Rattle.rising.proofs.rooms.ceiling.Goals as goal

pub returns : goal.returns
returns c =
    let h = granted_by c.args.limit c.args.places c.args.wanted c.check_room.result c.map_or.result c.check_room.ensures (search rules) in
    record { granted = h.0; room = h.1.0; limit = h.1.1 }
