-- The entry is settled: two outcomes that its contract permits for one input are equal. Assumes nothing.
use mathlib.Core.Path.{◌≡◌}
use mathlib.Core.List.{List}
use Prim.Native.Nat.{ℕ}
use Rattle.laws.proofs.Settled.{same_value}
use Rattle.head.proofs.head_lines.Reads as head-lines
use Rattle.head.proofs.Head.as_bytes.Reads as as-bytes

pub head_lines_settled : (κs : _) (a : _) (r t : List ℕ) (s u : _) → head-lines.Post κs a r s → head-lines.Post κs a t u → r ≡ t
head_lines_settled κs a r t s u p q = same_value p.0 q.0

pub as_bytes_settled : (κs : _) (a : _) (r t : _) (s u : _) → as-bytes.Post κs a r s → as-bytes.Post κs a t u → r.now ≡ t.now
as_bytes_settled κs a r t s u p q = same_value p q
