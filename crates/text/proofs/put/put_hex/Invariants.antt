-- `text::put::put_hex` meets its contract. The loop's invariant: what is still to be stored, stored from here on, gives the buffer at the end.
-- Assumes nothing.
use mathlib.Core.Path.{◌≡◌}
use Prim.Native.Nat.{◌+◌, ◌*◌, ◌≤◌}
use lib.ListN.{length, drop}
use lib.Seq.{sets}
use Rattle.asm.specs.Asm.{hex}
use Rattle.text.proofs.put.put_hex.Given as goal

abbrev pub invariant-loop-b : goal.invariant-loop-b
invariant-loop-b l =
    (l.n + 2 * length l.bytes ≤ length l.out) × (l.m ≡ l.n + 2 * l.b-index) × (sets l.out l.m (hex (drop l.b-index l.bytes)) ≡ sets l.initial.out l.n (hex l.bytes))
