use Rattle.std.proofs.Common.{sym, subst, rules}
use Rattle.std.specs.List.Sorted.{IsBinarySearchResult}
use Rattle.std.proofs.lemmas.List.Sorted.{answers_always}
use Rattle.rights.specs.Lists.{Rising}
use Rattle.book.specs.Cells.{KeyBefore, CellFinding}
use Rattle.book.specs.Keys.{cell_key}
use Rattle.book.specs.contracts.keyed.KeyOrd.TheImpl as key_ord
use Rattle.book.proofs.Heaps.{decides_climbs, found_cell}
use Rattle.book.proofs.packed.Cells.cell_of.Goals as goal

pub returns : goal.returns
returns c =
    let facts = c.binary_search_by_key.ensures in
    let list = c.as_slice.result.now in
    let r = c.binary_search_by_key.result in
    let by_key = facts.position cell_key (answers_always _ _ _ (λ f a r g called. search rules)) in
    let at = subst (λ k. IsBinarySearchResult (λ x. (key_ord.ghosts).cmp (cell_key x) k) list r) c.from-key.ensures by_key in
    let up = subst (Rising KeyBefore) (sym c.as_slice.ensures) ((decides_climbs _).0 c.args.self.now.keys) in
    subst (λ l. CellFinding c.args.e l r) c.as_slice.ensures (found_cell c.args.e list up r facts.bound at)
