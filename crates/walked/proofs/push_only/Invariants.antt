-- `walked::push_only` meets its contract. The loop's invariant: what the walk from here on decides, the whole walk does. The measure
-- is what is left of the script. Assumes nothing.
use mathlib.Core.Path.{◌≡◌}
use mathlib.Core.Bool.{false}
use Prim.Native.Nat.{◌-◌}
use lib.ListN.{length}
use Rattle.script.specs.Run.{walk_from}
use Rattle.walked.specs.Walked.{push_only_run}
use Rattle.walked.proofs.push_only.Given as goal

abbrev pub invariant-loop-found : goal.invariant-loop-found
invariant-loop-found l = push_only_run (walk_from false l.s l.c.at) ≡ push_only_run (walk_from false l.s 0)

abbrev pub decreases-loop-found : goal.decreases-loop-found
decreases-loop-found l = length l.s - l.c.at
