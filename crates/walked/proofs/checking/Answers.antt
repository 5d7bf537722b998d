-- `walked::checking` meets its contract: the opcode at the cursor decides, and then whether the script ends. Assumes nothing.
use mathlib.Core.Path.{sym, ap, ◌∙◌}
use borrow.Author.Tests.{eq-eqb, ne_eqb}
use Rattle.std.specs.Prelude.{Ok}
use Rattle.walk.proofs.Turn.{finds, turn_at}
use Rattle.walked.specs.Walked.{checks}
use Rattle.walked.proofs.checking.Goals as goal

pub returns-then-code : goal.returns-then-code
returns-then-code c =
    sym (ap checks (turn_at _ _ _ c.next-stepped.ensures (finds c.in-Ok.is c.in-Some-Opcode.is (rw c.in-Some-Opcode.is at c.in-Some-Opcode.field-0-is))) ∙ rw (eq-eqb _ _ c.if-code.true, c.ending.ensures))

pub returns-else-code : goal.returns-else-code
returns-else-code c =
    sym (ap checks (turn_at _ _ _ c.next-stepped.ensures (finds c.in-Ok.is c.in-Some-Opcode.is (rw c.in-Some-Opcode.is at c.in-Some-Opcode.field-0-is))) ∙ rw (ne_eqb _ _ c.if-code.false))

pub returns-in-None : goal.returns-in-None
returns-in-None c = sym (ap checks (turn_at _ _ _ c.next-stepped.ensures (c.in-Ok.is ∙ ap Ok c.in-None.is)))

pub returns-in-Some-Push : goal.returns-in-Some-Push
returns-in-Some-Push c = sym (ap checks (turn_at _ _ _ c.next-stepped.ensures (finds c.in-Ok.is c.in-Some-Push.is (rw c.in-Some-Push.is at c.in-Some-Push.field-0-is))))

pub returns-in_default : goal.returns-in_default
returns-in_default c = sym (ap checks (turn_at _ _ _ c.next-stepped.ensures c.in_default.is))
