-- `held::built` meets its contract, case by case. Assumes nothing.
use mathlib.Core.Path.{refl, ap, ◌∙◌}
use mathlib.Core.List.{[]}
use Prim.Native.Nat.{◌+◌}
use lib.ListN.{length}
use Rattle.refusal.specs.Answer.{said}
use Rattle.hand.specs.Handed.{values_said}
use Rattle.hand.proofs.Handing.{builds_refused}
use Rattle.held.proofs.built.Goals as goal

pub returns-in-Err : goal.returns-in-Err
returns-in-Err c =
    let e = c.needed.ensures ∙ ap (λ a. 2 + length (values_said (λ done. []) (said a))) c.in-Err.is in
    λ buffer.
    builds_refused _ c.args.values.now c.in-Err.why c.if-values-lt-STATE_VALUES.false (rw e at c.if-values-needed.false) (ap said c.in-Err.is)
    (c.refusal.ensures.0, c.refusal.ensures.1 ∙ rw c.remembered_as.ensures refl)
