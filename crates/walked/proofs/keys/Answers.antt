-- `walked::keys` meets its contract. The loop's invariant: the keys that were counted, with those to come, are all, and what follows
-- them is the same. The measure is what is left of the script. Assumes nothing.
use mathlib.Core.Path.{sym, ap, ◌∙◌}
use native.Mathlib.Omega.{arith}
use Rattle.std.specs.Prelude.{Ok}
use Rattle.walk.proofs.Turn.{finds, turn_at, moves_at}
use Rattle.walked.specs.Walked.{pushes, after_pushes}
use Rattle.walked.proofs.Runs.{no_count, too_many, counted}
use Rattle.walked.proofs.keys.Goals as goal

pub returns-in-None : goal.returns-in-None
returns-in-None c =
    sym (no_count _ _ (sym c.loop-found.invariant.2 ∙ ap after_pushes (turn_at _ _ _ c.next-stepped.ensures (c.in-Ok.is ∙ ap Ok c.in-None.is))))

pub returns-in-Some-Opcode : goal.returns-in-Some-Opcode
returns-in-Some-Opcode c =
    let i = c.loop-found.invariant in
    let t = turn_at _ _ _ c.next-stepped.ensures (finds c.in-Ok.is c.in-Some-Opcode.is (rw c.in-Some-Opcode.is at c.in-Some-Opcode.field-0-is)) in
    rw (c.agreeing.ensures, c.checking.ensures)
    (sym (counted _ _ (omega (arith, ap pushes t)) i.0 (sym i.2 ∙ ap after_pushes t)))

pub returns-then-count-eq-MAX_KEYS : goal.returns-then-count-eq-MAX_KEYS
returns-then-count-eq-MAX_KEYS c =
    let t = turn_at _ _ _ c.next-stepped.ensures (finds c.in-Ok.is c.in-Some-Push.is (rw c.in-Some-Push.is at c.in-Some-Push.field-0-is)) in
    sym (too_many _ _ (omega (arith, ap pushes t)))

pub loop-found-smaller : goal.loop-found-smaller
loop-found-smaller c = omega (arith, moves_at _ _ _ c.next-stepped.ensures (finds c.in-Ok.is c.in-Some-Push.is (rw c.in-Some-Push.is at c.in-Some-Push.field-0-is)))

pub loop-found-preserved : goal.loop-found-preserved
loop-found-preserved c =
    let i = c.loop-found.invariant in
    let t = turn_at _ _ _ c.next-stepped.ensures (finds c.in-Ok.is c.in-Some-Push.is (rw c.in-Some-Push.is at c.in-Some-Push.field-0-is)) in
    (omega arith, omega (arith, ap pushes t), sym (ap after_pushes t) ∙ i.2)

pub returns-in_default : goal.returns-in_default
returns-in_default c =
    sym (no_count _ _ (sym c.loop-found.invariant.2 ∙ ap after_pushes (turn_at _ _ _ c.next-stepped.ensures c.in_default.is)))
