-- The length step: k length bytes behind the opcode at a place, read from the last to the first; i are still to be read. Assumes nothing.
use mathlib.Core.Path.{◌≡◌}
use mathlib.Core.Logic.{⊎_elim}
use mathlib.Core.List.{List}
use Prim.Native.Nat.{ℕ, ◌+◌, ◌-◌, ◌*◌, ◌^◌, ◌≤◌, ◌<◌}
use native.Mathlib.Omega.{arith}
use lib.ListN.{length, get_or}
use Rattle.laws.proofs.Test.{lt_or_le}
use Rattle.opcodes.specs.Opcode.{Sort, push, number, plain, length_bytes_after}
use Rattle.script.specs.Script.{read_le}
use Rattle.script.specs.Instruction.{Bytes}
use Rattle.script.proofs.Little.{le_more, le_small}
use Rattle.script.proofs.Step.{few}

pub record Stated (s : List ℕ) (at k stated i : ℕ) : Type 0 where
  pub at_most : k ≤ 4
  pub within : i ≤ k
  pub so : stated ≡ read_le (k - i) s (at + 1 + i)
  pub small : stated < 2 ^ 32
  pub there : i < k → at + k < length s

pub few_after : (sort : Sort) → length_bytes_after sort ≤ 4
few_after (push form) = few form
few_after number = omega arith
few_after plain = omega arith

pub none_yet : (s : List ℕ) (at k : ℕ) → k ≤ 4 → Stated s at k 0 k
unfolding read_le
none_yet s at k h = let e : k - k ≡ 0 = omega arith in record { at_most = h; within = omega arith; so = rw e; small = omega arith; there = λ l. absurd (omega arith) }

module _ {s : List ℕ} {at k stated i : ℕ} (f : Stated s at k stated i) where
  -- the last byte that is missing is behind the script's end
  pub cut : 0 < i → at < length s → length s - at ≤ i → length s < at + 1 + k
  cut p h c = omega (arith, f.within)

  -- one more is read
  pub more : Bytes s → 0 < i → i < length s - at → {x : ℕ} → x ≡ get_or s (at + i) 0 → Stated s at k (stated * 256 + x) (i - 1)
  more b p h {x} e =
      let q : at + 1 + (i - 1) ≡ at + i = omega arith in
      let m : read_le (k - i) s (at + 1 + i) * 256 + get_or s (at + i) 0 ≡ read_le (k - (i - 1)) s (at + 1 + (i - 1)) = rw (← q) (le_more s k (at + 1) i p f.within) in
      let n : stated * 256 + x ≡ read_le (k - (i - 1)) s (at + 1 + (i - 1)) = rw (f.so, e) m in
      record {
        at_most = f.at_most;
        within = omega (arith, f.within);
        so = n;
        small = omega (arith, n, le_small s b (k - (i - 1)) (at + 1 + (i - 1)) (omega (arith, f.at_most)));
        there = λ l. ⊎_elim (λ (g : i < k). f.there g) (λ (g : k ≤ i). omega (arith, f.within)) (lt_or_le i k);
      }

  -- all are read
  pub all : i ≤ 0 → stated ≡ read_le k s (at + 1)
  all z =
      let e : k - i ≡ k = omega arith in
      let g : at + 1 + i ≡ at + 1 = omega arith in
      rw (e, g) at f.so

  pub whole : i ≤ 0 → at < length s → at + 1 + k ≤ length s
  whole z h = ⊎_elim (λ (g : i < k). omega (arith, f.there g)) (λ (g : k ≤ i). omega arith) (lt_or_le i k)
