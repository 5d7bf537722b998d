-- `walk::whole_size` meets its contract: a push stands whole in the script, and its body follows its length bytes. Assumes nothing.
use mathlib.Core.Path.{ap}
use native.Mathlib.Omega.{arith}
use Rattle.script.specs.Walk.{size_said}
use Rattle.walk.proofs.Turn.{finds, says_at, good_at}
use Rattle.walk.proofs.whole_size.Goals as goal

pub overflow_add-result : goal.overflow_add-result
overflow_add-result c =
    let a = c.in-Ok-Some-Push in
    let q = rw a.is at a.field-0-is in
    omega (arith, good_at _ _ _ c.next.ensures (finds a.is q (rw (a.is, q) at a.field-0-0-is)))

pub overflow_sub-result : goal.overflow_sub-result
overflow_sub-result c =
    let a = c.in-Ok-Some-Push in
    let q = rw a.is at a.field-0-is in
    omega (arith, good_at _ _ _ c.next.ensures (finds a.is q (rw (a.is, q) at a.field-0-0-is)))

pub returns-in-Ok-Some-Push : goal.returns-in-Ok-Some-Push
returns-in-Ok-Some-Push c =
    let a = c.in-Ok-Some-Push in
    let q = rw a.is at a.field-0-is in
    let e = finds a.is q (rw (a.is, q) at a.field-0-0-is) in
    omega (arith, good_at _ _ _ c.next.ensures e, ap size_said (says_at _ _ _ c.next.ensures e))
