-- `walk::push::read_le` meets its contract. The loop's invariant: n is what the bytes from i on hold. Assumes nothing.
use mathlib.Core.Path.{◌≡◌}
use Prim.Native.Nat.{◌+◌, ◌-◌, ◌*◌}
use native.Mathlib.Omega.{arith}
use borrow.Author.Rules.{rules}
use Rattle.script.specs.Script.{read_le}
use Rattle.script.proofs.Little.{le_more, le_small}
use Rattle.walk.proofs.push.read_le.Goals as goal

pub loop-i-init : goal.loop-i-init
unfolding read_le
loop-i-init c =
    let e : c.args.k - c.args.k ≡ 0 = omega arith in
    (rw e, search rules)

pub loop-i-preserved : goal.loop-i-preserved
loop-i-preserved c =
    let a = c.args in
    let i = c.loop-i.i in
    let e = le_more a.s.now a.k a.p i (omega arith) (omega arith) in
    let m : c.loop-i.n * 256 + c.from.result ≡ read_le (a.k - (i - 1)) a.s.now (a.p + (i - 1)) = cc in
    (m, omega (arith, le_small a.s.now (λ j. omega (arith, c.type_inv.s j)) (a.k - (i - 1)) (a.p + (i - 1)) (omega arith)))
