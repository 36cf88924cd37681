use Rattle.std.proofs.Common.{length, subst}
use Rattle.std.specs.List.Sorted.{IsBinarySearchResult, IsSearchInRange}
use Rattle.rights.specs.contracts.entries.PairOrd.TheImpl as pair_ord
use Rattle.roll.specs.PairRolls.{pairs_of}
use Rattle.roll.proofs.Places.{searched}
use Rattle.roll.proofs.pair_roll.PairRoll.find.Goals as goal

pub returns : goal.returns
returns c =
    let x = c.args.self.now in
    let r = c.binary_search.result in
    searched (pairs_of x) c.args.p r x.kept.sound.rising
    (subst (λ l. IsSearchInRange r (length l)) c.as_slice.ensures c.binary_search.ensures.bound)
    (subst (λ l. IsBinarySearchResult (λ q. (pair_ord.ghosts).cmp q c.args.p) l r) c.as_slice.ensures c.binary_search.ensures.position)
