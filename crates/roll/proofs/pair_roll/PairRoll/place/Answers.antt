use Rattle.std.proofs.Common.{rules}
use Rattle.std.proofs.lemmas.Result.{err_from_is_err_and}
use Rattle.roll.specs.PairRolls.{pairs_of}
use Rattle.roll.proofs.Puts.{take_bad, take_found}
use Rattle.roll.proofs.pair_roll.PairRoll.place.Goals as goal

pub returns-in_err-p-clause-refuses : goal.returns-in_err-p-clause-refuses
returns-in_err-p-clause-refuses c =
    let p = err_from_is_err_and c.from_residual.result c.from_residual.ensures.1 in
    rw (p.1, p.2, c.in_err-p.ensures.0) (take_bad (pairs_of c.args.self.now) c.args.m c.args.g c.in_err-p.ensures.1)

pub returns : goal.returns
returns c =
    let found = take_found (pairs_of c.args.self.now) c.args.m c.args.g c.in_ok-p.p c.in_ok-p.ensures.1 c.in_ok-p.ensures.0 c.find.result c.map_err.result _ (λ k f h. search rules) c.find.ensures c.map_err.ensures.cases in
    record { refuses = found.0; stands = found.1 }
