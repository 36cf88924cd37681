use Rattle.std.proofs.Common.{◌≡◌, ◌≤◌, sym, ◌∙◌, rules}
use Rattle.register.proofs.Levels.{level_is, told}
use Rattle.register.proofs.Whole.{sound}
use Rattle.rights.specs.Tables.{Level}
use Rattle.register.specs.Catalogue.{tables_in, record_at}
use Rattle.register.specs.Rows.{BlankPast}
use Rattle.register.proofs.catalogue.Catalogue.table.Goals as goal

pub returns-clause-level : goal.returns-clause-level
returns-clause-level c =
    let s = c.args.self.now in
    let is : c.row.result ≡ record_at s c.args.number = search rules in
    told c.row.result (λ x. Level (tables_in s) c.args.number x.level) (λ x found. level_is _ _ (sound s) c.args.number x (sym is ∙ found))

pub returns-clause-few : goal.returns-clause-few
returns-clause-few c =
    let s = c.args.self.now in
    let is : c.row.result ≡ record_at s c.args.number = search rules in
    told c.row.result (λ x. x.count ≤ 8) (λ x found. s.few c.args.number x (sym is ∙ found))

pub returns-clause-blank : goal.returns-clause-blank
returns-clause-blank c =
    let s = c.args.self.now in
    let is : c.row.result ≡ record_at s c.args.number = search rules in
    told c.row.result BlankPast (λ x found. s.blank c.args.number x (sym is ∙ found))
