-- `pool::name_lengths` meets its contract: the constant is what the definition computes. Assumes nothing.
use mathlib.Core.Path.{refl}
use Rattle.pool.specs.Text.{digits, decimal}
use Rattle.pool.specs.Names.{name_of}
use Rattle.pool.specs.Pool.{lengths_of_names}
use Rattle.pool.proofs.name_lengths.Goals as goal

pub returns : goal.returns
unfolding lengths_of_names name_of decimal digits
returns c = refl
