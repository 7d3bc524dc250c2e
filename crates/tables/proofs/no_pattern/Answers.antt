-- `tables::no_pattern` meets its contract by computation. Assumes nothing.
use mathlib.Core.Path.{refl}
use Rattle.tables.specs.Pattern.{table_of, zero_pattern}
use Rattle.tables.proofs.no_pattern.Goals as goal

pub returns : goal.returns
unfolding zero_pattern table_of
returns c = refl
