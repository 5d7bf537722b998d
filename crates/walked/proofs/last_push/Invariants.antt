-- `walked::last_push` meets its contract. The loop's invariant: the walk from here on, with the body that is held, gives what the whole
-- walk gives. The measure is what is left of the script. Assumes nothing.
use mathlib.Core.Path.{◌≡◌}
use mathlib.Core.Bool.{false}
use Rattle.std.specs.Prelude.{None}
use Prim.Native.Nat.{◌-◌}
use lib.ListN.{length}
use Rattle.script.specs.Run.{walk_from}
use Rattle.walked.specs.Walked.{redeem_run}
use Rattle.walked.specs.Answer.{said_place}
use Rattle.walked.proofs.last_push.Given as goal

abbrev pub invariant-loop-found : goal.invariant-loop-found
invariant-loop-found l =
    redeem_run (said_place l.last) (walk_from false l.s l.c.at) ≡ redeem_run None (walk_from false l.s 0)

abbrev pub decreases-loop-found : goal.decreases-loop-found
decreases-loop-found l = length l.s - l.c.at
