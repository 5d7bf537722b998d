-- `walked::keys` meets its contract. The loop's invariant: the keys that were counted, with those to come, are all, and what follows
-- them is the same. The measure is what is left of the script. Assumes nothing.
use mathlib.Core.Path.{◌≡◌}
use mathlib.Core.Bool.{false}
use Prim.Native.Nat.{◌+◌, ◌-◌, ◌≤◌}
use lib.ListN.{length}
use Rattle.script.specs.Run.{walk_from}
use Rattle.walked.specs.Walked.{pushes, after_pushes}
use Rattle.walked.proofs.keys.Given as goal

abbrev pub invariant-loop-found : goal.invariant-loop-found
invariant-loop-found l =
    (l.count ≤ 255) × (l.count + pushes (walk_from false l.s l.c.at) ≡ pushes (walk_from false l.s l.initial.c.at))
    × (after_pushes (walk_from false l.s l.c.at) ≡ after_pushes (walk_from false l.s l.initial.c.at))

abbrev pub decreases-loop-found : goal.decreases-loop-found
decreases-loop-found l = length l.s - l.c.at
