-- `places::count` meets its contract. The loop's invariant: what is counted, with what is still to come, is all that the walk gives, and the
-- walk from here on ends as the whole one does. The measure is what is left of the script. Assumes nothing.
use mathlib.Core.Path.{◌≡◌}
use Prim.Native.Nat.{◌+◌, ◌-◌, ◌≤◌}
use lib.ListN.{length}
use Rattle.walk.specs.Answer.{is_minimal}
use Rattle.script.specs.Run.{walk_from, items, ending}
use Rattle.places.proofs.count.Given as goal

abbrev pub invariant-loop-mode : goal.invariant-loop-mode
invariant-loop-mode l =
    (l.at ≤ length l.script) × (l.n ≤ l.at)
    × (l.n + length (items (walk_from (is_minimal l.mode) l.script l.at)) ≡ length (items (walk_from (is_minimal l.mode) l.script 0)))
    × (ending (walk_from (is_minimal l.mode) l.script l.at) ≡ ending (walk_from (is_minimal l.mode) l.script 0))

abbrev pub decreases-loop-mode : goal.decreases-loop-mode
decreases-loop-mode l = length l.script - l.at
