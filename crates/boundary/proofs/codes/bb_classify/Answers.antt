-- `boundary::codes::bb_classify` meets its contract: the sort is handed over by its row. Assumes nothing.
use mathlib.Core.Path.{ap, ◌∙◌}
use Rattle.std.specs.Prelude.{Ok}
use Rattle.laws.specs.Said.{answers}
use Rattle.opcodes.specs.Opcode.{said_class}
use Rattle.hand.specs.Handed.{sort_row}
use Rattle.hand.proofs.Handing.{says_by, says_as}
use Rattle.boundary.proofs.codes.bb_classify.Goals as goal

pub returns : goal.returns
returns c = says_as 2 sort_row _ (c.over.ensures ∙ says_by 2 sort_row said_class (Ok _) _) (ap answers c.classify.ensures)
