-- `pool::name_starts` meets its contract: the constant is what the definition computes. Assumes nothing.
use mathlib.Core.Path.{refl}
use Rattle.pool.specs.Text.{digits, decimal}
use Rattle.pool.specs.Names.{name_of}
use Rattle.pool.specs.Pool.{starts_of_names, names_from}
use Rattle.pool.proofs.name_starts.Goals as goal

pub returns : goal.returns
unfolding starts_of_names names_from name_of decimal digits
returns c = refl
