-- The entry is settled: two outcomes that its contract permits for one input are equal, the answer and the lent buffer. Assumes nothing.
use mathlib.Core.Path.{◌≡◌}
use Rattle.laws.proofs.Settled.{settled, same_value}
use Rattle.refusal.proofs.Same.{same_answer}
use Rattle.inspect.proofs.inspect.Reads as inspect
use Rattle.refusal.specs.declared.Refusal.{Refusal}
use Rattle.std.specs.Prelude.{Result}
use Prim.Native.Nat.{ℕ}

pub inspect_settled : (κs : _) (a : _) (r t : Result ℕ Refusal) (s u : _) → inspect.Post κs a r s → inspect.Post κs a t u → (r ≡ t) × (s.1.0.now ≡ u.1.0.now)
inspect_settled κs a r t s u p q = (settled same_answer r t p.0 q.0, same_value p.1 q.1)
