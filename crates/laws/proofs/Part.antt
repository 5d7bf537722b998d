-- A part of a list of bytes is one. Assumes nothing.
use mathlib.Core.Path.{◌≡◌}
use mathlib.Core.Logic.{⊎_elim}
use mathlib.Core.List.{List}
use Prim.Native.Nat.{ℕ, ◌+◌, ◌≤◌, ◌<◌}
use native.Mathlib.Omega.{arith}
use lib.ListN.{length, take, drop, get_or-eq_default}
use lib.Seq.{get_or-take, get_or-drop}
use Rattle.laws.specs.Bytes.{Bytes}
use Rattle.laws.proofs.Test.{lt_or_le}

pub part_bytes : (s : List ℕ) → Bytes s → (n p : ℕ) → length (take n (drop p s)) ≡ n → Bytes (take n (drop p s))
part_bytes s b n p l i =
    ⊎_elim
    (λ (h : i < n). rw (get_or-take n (drop p s) i 0 h, get_or-drop p s i 0) (b (p + i)))
    (λ (g : n ≤ i). rw (get_or-eq_default (take n (drop p s)) 0 {n = i} (omega arith)) (omega arith))
    (lt_or_le i n)
