-- The laws that the others rest on, put together. Assumes nothing.
use Rattle.rights.specs.Basics.{BasicLaws}
use Rattle.rights.proofs.Bits.{bit_below, bit_injective, row_of}
use Rattle.rights.proofs.Holding.{holds_grows}
use Rattle.rights.proofs.Order.{before_irreflexive, before_transitive, before_total}
use Rattle.rights.proofs.Within.{within_refl, within_trans, within_grows, within_or_not}

pub basic_laws : BasicLaws
basic_laws = record {
  within_itself = within_refl;
  within_through = within_trans;
  within_grows = within_grows;
  within_told = within_or_not;
  holding_grows = λ ps qs more es fs added. holds_grows ps qs more es fs added;
  bits_few = bit_below;
  bits_apart = bit_injective;
  bits_back = row_of;
  never_before_itself = before_irreflexive;
  before_through = before_transitive;
  one_first = before_total;
}
