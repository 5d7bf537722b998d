-- The entry is settled: two outcomes that its contract permits for one input are equal, the answer and the lent buffer. Assumes nothing.
use mathlib.Core.Path.{◌≡◌}
use Prim.Native.Nat.{ℕ}
use Rattle.laws.proofs.Settled.{same_value}
use Rattle.copying.proofs.copy.Reads as copy

pub copy_settled : (κs : _) (a : _) (r t : ℕ) (s u : _) → copy.Post κs a r s → copy.Post κs a t u → (r ≡ t) × (s.1.0.now ≡ u.1.0.now)
copy_settled κs a r t s u p q = (same_value p.0 q.0, same_value p.1 q.1)
