-- `step::step` meets its contract, case by case. Assumes nothing.
use mathlib.Core.Path.{refl, ap, ◌∙◌}
use Rattle.std.specs.Prelude.{Ok}
use Rattle.walk.specs.Answer.{said_found}
use Rattle.walk.proofs.Turn.{finds}
use Rattle.hand.proofs.Handing.{steps_row, steps_refused}
use Rattle.step.proofs.step.Goals as goal

pub returns-in-Ok-None : goal.returns-in-Ok-None
returns-in-Ok-None c =
    let a = c.in-Ok-None in
    let e = let q = rw a.is at a.field-0-is in a.is ∙ ap Ok q in
    steps_row _ _ c.args.values.now _ c.if-values-lt-STEP_VALUES.false (ap said_found e) c.put.ensures

pub returns-in-Ok-Some-Opcode : goal.returns-in-Ok-Some-Opcode
returns-in-Ok-Some-Opcode c =
    let a = c.in-Ok-Some-Opcode in
    let e = let q = rw a.is at a.field-0-is in finds a.is q (rw (a.is, q) at a.field-0-0-is) in
    steps_row _ _ c.args.values.now _ c.if-values-lt-STEP_VALUES.false (ap said_found e) c.put-in-Ok-Some-Opcode.ensures

pub returns-in-Ok-Some-Push : goal.returns-in-Ok-Some-Push
returns-in-Ok-Some-Push c =
    let a = c.in-Ok-Some-Push in
    let e = let q = rw a.is at a.field-0-is in finds a.is q (rw (a.is, q) at a.field-0-0-is) in
    steps_row _ _ c.args.values.now _ c.if-values-lt-STEP_VALUES.false (ap said_found e) (c.put-in-Ok-Some-Push.ensures ∙ rw c.length_bytes-k.ensures refl)

pub returns-in-Err : goal.returns-in-Err
returns-in-Err c =
    steps_refused _ _ c.args.values.now c.in-Err.why c.if-values-lt-STEP_VALUES.false (ap said_found c.in-Err.is) c.refusal.ensures
