-- `boundary::judge::bb_kind` meets its contract: the kind is handed over by its row. Assumes nothing.
use mathlib.Core.Path.{◌∙◌}
use Rattle.templates.specs.Answer.{said_template}
use Rattle.hand.specs.Handed.{kind_row}
use Rattle.hand.proofs.Handing.{says_by, says_as}
use Rattle.boundary.proofs.judge.bb_kind.Goals as goal

pub returns : goal.returns
returns c = says_as 1 kind_row _ (c.over.ensures ∙ says_by 1 kind_row said_template _ _) c.kind.ensures
