-- `walk::part::body_span` meets its contract: what was found says where the body lies, and a push stands whole in the script. Assumes nothing.
use mathlib.Core.Path.{refl}
use native.Mathlib.Omega.{arith}
use Rattle.walk.proofs.Turn.{finds, says_at, good_at}
use Rattle.walk.proofs.part.body_span.Goals as goal

pub overflow_add-result : goal.overflow_add-result
overflow_add-result c =
    let a = c.in-Ok-Some-Push in
    omega (arith, good_at _ _ _ c.next.ensures (let q = rw a.is at a.field-0-is in finds a.is q (rw (a.is, q) at a.field-0-0-is)))

pub returns-in-Ok-Some-Push : goal.returns-in-Ok-Some-Push
returns-in-Ok-Some-Push c =
    let a = c.in-Ok-Some-Push in
    let e = let q = rw a.is at a.field-0-is in finds a.is q (rw (a.is, q) at a.field-0-0-is) in
    rw (says_at _ _ _ c.next.ensures e) (record { first = refl; last = refl; fits = omega (arith, good_at _ _ _ c.next.ensures e) })
