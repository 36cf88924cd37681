-- Every look-up in the empty rows finds nothing.
use Rattle.std.proofs.Common.{None, ap}
use mathlib.Core.Path.{fun_ext}
use Rattle.std.specs.Option.{option_map}
use Rattle.register.specs.Rows.{table_of}
use Rattle.register.proofs.Sound.{parts, sound_none, get_or_fill}
use Rattle.register.proofs.catalogue.Catalogue.new.Goals as goal

pub invariant_of-result : goal.invariant_of-result
invariant_of-result c = parts sound_none

pub returns : goal.returns
returns c = record { subjects = fun_ext (get_or_fill None 256); tables = fun_ext (λ t. ap (option_map table_of) (get_or_fill None 128 t)) }
