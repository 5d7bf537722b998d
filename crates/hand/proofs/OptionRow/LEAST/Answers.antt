-- The least number of an `Option` fits its type. Assumes nothing.
use Rattle.std.proofs.Common.{arith}
use Rattle.hand.proofs.OptionRow.LEAST.Goals as goal

pub overflow_add-result : goal.overflow_add-result
overflow_add-result g c = omega (arith, g.met.T.Behind.brief, c.LEAST.ensures)
