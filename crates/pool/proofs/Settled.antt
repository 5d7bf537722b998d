-- Each entry is settled: two outcomes that its contract permits for one input are equal. Assumes nothing.
use mathlib.Core.Path.{◌≡◌}
use mathlib.Core.List.{List}
use Prim.Native.Nat.{ℕ}
use Rattle.laws.proofs.Settled.{same_value}
use Rattle.pool.proofs.name_pool.Reads as name-pool
use Rattle.pool.proofs.name_starts.Reads as name-starts
use Rattle.pool.proofs.name_lengths.Reads as name-lengths

pub name_pool_settled : (κs : _) (a : _) (r t : List ℕ) (s u : _) → name-pool.Post κs a r s → name-pool.Post κs a t u → r ≡ t
name_pool_settled κs a r t s u = same_value

pub name_starts_settled : (κs : _) (a : _) (r t : List ℕ) (s u : _) → name-starts.Post κs a r s → name-starts.Post κs a t u → r ≡ t
name_starts_settled κs a r t s u = same_value

pub name_lengths_settled : (κs : _) (a : _) (r t : List ℕ) (s u : _) → name-lengths.Post κs a r s → name-lengths.Post κs a t u → r ≡ t
name_lengths_settled κs a r t s u = same_value
