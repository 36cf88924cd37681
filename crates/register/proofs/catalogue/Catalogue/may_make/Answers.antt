use Rattle.std.proofs.Common.{arith}
use Rattle.std.proofs.lemmas.Bool.{iff_false}
use Rattle.register.proofs.Levels.{free_from, creator_from}
use Rattle.register.proofs.catalogue.Catalogue.may_make.Goals as goal

pub returns-clause-allowed : goal.returns-clause-allowed
returns-clause-allowed c =
    let s = c.args.self.now in
    record {
      within = omega arith;
      free = free_from s.tables c.args.table (iff_false c.stands.ensures c.if-stands.false);
      owned = creator_from s.subjects c.args.issuer (iff_false c.lacks_mark.ensures c.if-lacks_mark.false);
      tables = c.all_tables.ensures.0 c.if-not-all_tables.false;
      standing = c.all_stand.ensures.0 c.if-not-all_stand.false;
    }
