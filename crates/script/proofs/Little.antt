-- Numbers whose bytes stand in a script, the lowest first: one byte more in front, and how large they are. Assumes nothing.
use mathlib.Core.Path.{◌≡◌}
use mathlib.Core.List.{List}
use Prim.Native.Nat.{ℕ, zero, suc, ◌+◌, ◌-◌, ◌*◌, ◌^◌, ◌≤◌, ◌<◌}
use native.Mathlib.Nat.{pow-suc, pow-le-pow_right}
use native.Mathlib.Omega.{arith}
use lib.ListN.{get_or}
use Rattle.script.specs.Instruction.{Bytes}
use Rattle.script.specs.Script.{read_le}

pub le_more : (s : List ℕ) (k p i : ℕ) → 0 < i → i ≤ k → read_le (k - i) s (p + i) * 256 + get_or s (p + (i - 1)) 0 ≡ read_le (k - (i - 1)) s (p + (i - 1))
unfolding read_le
le_more s k p i a b =
    let e : k - (i - 1) ≡ suc (k - i) = omega arith in
    let f : suc (p + (i - 1)) ≡ p + i = omega arith in
    rw (e, f) (omega arith)

pub le_below : (s : List ℕ) → Bytes s → (k p : ℕ) → read_le k s p < 256 ^ k
unfolding read_le
le_below s h zero p = omega arith
le_below s h (suc k) p = omega (arith, pow-suc 256 k, h p, le_below s h k (suc p))

-- four bytes at most
pub le_small : (s : List ℕ) → Bytes s → (k p : ℕ) → k ≤ 4 → read_le k s p < 2 ^ 32
le_small s h k p l = omega (arith, le_below s h k p, pow-le-pow_right {n = 256} (omega arith) l)
