-- Each entry is settled: two outcomes that its contract permits for one input are equal. Assumes nothing.
use mathlib.Core.Path.{◌≡◌}
use mathlib.Core.Bool.{Bool}
use Rattle.laws.proofs.Settled.{settled, same_value}
use Rattle.std.specs.Prelude.{Option}
use Rattle.walked.specs.declared.Place.{Place}
use Rattle.walked.proofs.Same.{same_place}
use Rattle.walked.proofs.push_only.Reads as push-only
use Rattle.walked.proofs.last_push.Reads as last-push
use Rattle.walked.proofs.multisig.Reads as multisig

pub push_only_settled : (κs : _) (a : _) (r t : Bool) (s u : _) → push-only.Post κs a r s → push-only.Post κs a t u → r ≡ t
push_only_settled κs a r t s u = same_value

pub last_push_settled : (κs : _) (a : _) (r t : Option Place) (s u : _) → last-push.Post κs a r s → last-push.Post κs a t u → r ≡ t
last_push_settled κs a r t s u = settled same_place r t

pub multisig_settled : (κs : _) (a : _) (r t : Bool) (s u : _) → multisig.Post κs a r s → multisig.Post κs a t u → r ≡ t
multisig_settled κs a r t s u = same_value
