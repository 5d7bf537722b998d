-- `counts::count` meets its contract. The loop's invariant: Core's loop, from the cursor on with what is counted and the opcode read last, gives
-- Core's count; at most 20 are counted for each byte passed. The measure is what is left of the script. Assumes nothing.
use Prim.Native.Nat.{◌*◌, ◌-◌, ◌≤◌}
use lib.ListN.{length}
use Rattle.counts.proofs.Turns.{Counting}
use Rattle.counts.proofs.count.Given as goal

abbrev pub invariant-loop-found : goal.invariant-loop-found
invariant-loop-found l = (l.c.at ≤ length l.script) × (l.n ≤ 20 * l.c.at) × Counting l.accurate l.script l.c.at l.n l.last

abbrev pub decreases-loop-found : goal.decreases-loop-found
decreases-loop-found l = length l.script - l.c.at
