-- `walk::push::read_le` meets its contract. The loop's invariant: n is what the bytes from i on hold. Assumes nothing.
use mathlib.Core.Path.{◌≡◌}
use Prim.Native.Nat.{◌+◌, ◌-◌, ◌^◌, ◌<◌}
use Rattle.script.specs.Script.{read_le}
use Rattle.walk.proofs.push.read_le.Given as goal

abbrev pub invariant-loop-i : goal.invariant-loop-i
invariant-loop-i l = (l.n ≡ read_le (l.k - l.i) l.s (l.p + l.i)) × (l.n < 2 ^ 32)
