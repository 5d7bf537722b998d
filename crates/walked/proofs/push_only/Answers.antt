-- `walked::push_only` meets its contract. The loop's invariant: what the walk from here on decides, the whole walk does. The measure
-- is what is left of the script. Assumes nothing.
use mathlib.Core.Path.{sym, ap, ◌∙◌}
use native.Mathlib.Omega.{arith}
use Rattle.std.specs.Prelude.{Ok}
use Rattle.walk.proofs.Turn.{finds, turn_at, moves_at}
use Rattle.walked.specs.Walked.{push_only_run, is_push_only}
use Rattle.walked.proofs.Runs.{op16_passes, above_op16}
use Rattle.walked.proofs.push_only.Goals as goal

pub returns-in-None : goal.returns-in-None
unfolding is_push_only
returns-in-None c =
    sym (ap push_only_run (turn_at _ _ _ c.next-stepped.ensures (c.in-Ok.is ∙ ap Ok c.in-None.is))) ∙ c.loop-found.invariant

pub returns-then-code-gt-OP_PUSHNUM_16 : goal.returns-then-code-gt-OP_PUSHNUM_16
unfolding is_push_only
returns-then-code-gt-OP_PUSHNUM_16 c =
    sym (above_op16 (turn_at _ _ _ c.next-stepped.ensures (finds c.in-Ok.is c.in-Some-Opcode.is (rw c.in-Some-Opcode.is at c.in-Some-Opcode.field-0-is))) c.if-code-gt-OP_PUSHNUM_16.true) ∙ c.loop-found.invariant

pub loop-found-smaller-in-Some-Opcode : goal.loop-found-smaller-in-Some-Opcode
loop-found-smaller-in-Some-Opcode c =
    omega (arith, moves_at _ _ _ c.next-stepped.ensures (finds c.in-Ok.is c.in-Some-Opcode.is (rw c.in-Some-Opcode.is at c.in-Some-Opcode.field-0-is)))

pub loop-found-preserved-in-Some-Opcode : goal.loop-found-preserved-in-Some-Opcode
loop-found-preserved-in-Some-Opcode c =
    sym (op16_passes (turn_at _ _ _ c.next-stepped.ensures (finds c.in-Ok.is c.in-Some-Opcode.is (rw c.in-Some-Opcode.is at c.in-Some-Opcode.field-0-is))) c.if-code-gt-OP_PUSHNUM_16.false) ∙ c.loop-found.invariant

pub loop-found-smaller : goal.loop-found-smaller
loop-found-smaller c = omega (arith, moves_at _ _ _ c.next-stepped.ensures (finds c.in-Ok.is c.in-Some-Push.is (rw c.in-Some-Push.is at c.in-Some-Push.field-0-is)))

pub loop-found-preserved : goal.loop-found-preserved
loop-found-preserved c =
    sym (ap push_only_run (turn_at _ _ _ c.next-stepped.ensures (finds c.in-Ok.is c.in-Some-Push.is (rw c.in-Some-Push.is at c.in-Some-Push.field-0-is)))) ∙ c.loop-found.invariant

pub returns-in_default : goal.returns-in_default
unfolding is_push_only
returns-in_default c =
    sym (ap push_only_run (turn_at _ _ _ c.next-stepped.ensures c.in_default.is)) ∙ c.loop-found.invariant
