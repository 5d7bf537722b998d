-- `hand::number` meets its contract. Assumes nothing.
use mathlib.Core.Path.{refl, ap}
use borrow.Author.Rules.{rules}
use mir.Syntax.{w64}
use mir.Facts.{to_z-of_z}
use Rattle.refusal.specs.Answer.{said}
use Rattle.hand.proofs.Handing.{reads_value, reads_refused}
use Rattle.hand.proofs.number.Goals as goal

pub returns-in-Ok : goal.returns-in-Ok
returns-in-Ok c =
    reads_value _ c.args.values.now c.if-values-lt1.false (ap said c.in-Ok.is)
    (rw (to_z-of_z {w = w64} {z = c.in-Ok.n} (search rules)) refl)

pub returns-in-Err : goal.returns-in-Err
returns-in-Err c =
    reads_refused _ _ c.if-values-lt1.false (ap said c.in-Err.is) c.number.ensures
