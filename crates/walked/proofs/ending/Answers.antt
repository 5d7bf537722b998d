-- `walked::ending` meets its contract: the walk from the cursor on is what the call found and no more. Assumes nothing.
use mathlib.Core.Path.{sym, ap, ◌∙◌}
use Rattle.walk.proofs.Turn.{turn_at}
use Rattle.walked.specs.Walked.{is_end}
use Rattle.walked.proofs.Runs.{ends_if_none}
use Rattle.walked.proofs.ending.Goals as goal

pub returns : goal.returns
returns c = sym (ap is_end (turn_at _ _ _ c.next.ensures c.in-Ok.is) ∙ ends_if_none c.in-Ok.found _ _ c.is_none.ensures)

pub returns-in_default : goal.returns-in_default
returns-in_default c = sym (ap is_end (turn_at _ _ _ c.next.ensures c.in_default.is))
