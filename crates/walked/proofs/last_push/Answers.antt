-- `walked::last_push` meets its contract. The loop's invariant: the walk from here on, with the body that is held, gives what the whole
-- walk gives. The measure is what is left of the script. Assumes nothing.
use mathlib.Core.Path.{sym, ap, ◌∙◌}
use native.Mathlib.Omega.{arith}
use Rattle.std.specs.Prelude.{Ok}
use Rattle.walk.proofs.Turn.{finds, turn_at, moves_at}
use Rattle.walked.specs.Walked.{redeem_run, redeem_script}
use Rattle.walked.specs.Answer.{said_place}
use Rattle.walked.proofs.Runs.{opcode_redeems}
use Rattle.walked.proofs.last_push.Goals as goal

pub returns-in-None : goal.returns-in-None
unfolding redeem_script
returns-in-None c =
    let l = c.loop-found in
    (sym (ap (redeem_run (said_place l.last)) (turn_at _ _ _ c.next-stepped.ensures (c.in-Ok.is ∙ ap Ok c.in-None.is))) ∙ l.invariant)

pub returns-in-Some-Opcode : goal.returns-in-Some-Opcode
unfolding redeem_script
returns-in-Some-Opcode c =
    let l = c.loop-found in
    (sym (opcode_redeems (turn_at _ _ _ c.next-stepped.ensures (finds c.in-Ok.is c.in-Some-Opcode.is (rw c.in-Some-Opcode.is at c.in-Some-Opcode.field-0-is))) (said_place l.last)) ∙ l.invariant)

pub loop-found-smaller : goal.loop-found-smaller
loop-found-smaller c = omega (arith, moves_at _ _ _ c.next-stepped.ensures (finds c.in-Ok.is c.in-Some-Push.is (rw c.in-Some-Push.is at c.in-Some-Push.field-0-is)))

pub loop-found-preserved : goal.loop-found-preserved
loop-found-preserved c =
    let l = c.loop-found in
    sym (ap (redeem_run (said_place l.last)) (turn_at _ _ _ c.next-stepped.ensures (finds c.in-Ok.is c.in-Some-Push.is (rw c.in-Some-Push.is at c.in-Some-Push.field-0-is)))) ∙ l.invariant

pub returns-in_default : goal.returns-in_default
unfolding redeem_script
returns-in_default c =
    let l = c.loop-found in
    (sym (ap (redeem_run (said_place l.last)) (turn_at _ _ _ c.next-stepped.ensures c.in_default.is)) ∙ l.invariant)
