-- The measured pass: n bytes of the text stand for the script up to a place. Assumes nothing.
use mathlib.Core.Path.{◌≡◌, ap}
use mathlib.Core.List.{List, ◌++◌}
use Prim.Native.Nat.{ℕ, ◌+◌, ◌-◌, ◌*◌, ◌≤◌, ◌<◌}
use native.Mathlib.Omega.{arith}
use lib.Dec.{eqb}
use lib.ListN.{length, take, drop, length-append, length-drop}
use lib.Seq.{length-take-le}
use Rattle.std.specs.Prelude.{if◌then◌else◌}
use Rattle.laws.proofs.Test.{by_test}
use Rattle.pool.specs.Text.{text}
use Rattle.asm.specs.Asm.{data_text, text_from, text_of}
use Rattle.asm.proofs.Sizes.{data_length}

-- a name has at most 22 bytes, so an instruction of so many bytes takes at most 24 for each
pub record Measured (s : List ℕ) (n at : ℕ) : Type 0 where
  pub within : at ≤ length s
  pub few : n ≤ 24 * at
  pub left : n + length (text_from s at) ≡ length (text_of s)

pub start : (s : List ℕ) → Measured s 0 0
unfolding text_of
start s = record { within = omega arith; few = omega arith; left = omega arith }

pub data_few : (len : ℕ) → (if eqb len 0 then 0 else 1 + 2 * len) ≤ 1 + 2 * len
data_few len = by_test (λ (n : ℕ). n ≤ 1 + 2 * len) (eqb len 0) (λ e. omega arith) (λ e. omega arith)

module _ {s : List ℕ} {n at : ℕ} (m : Measured s n at) where
  pub length_cut : text_from s at ≡ text "<unexpected end>" → n + 16 ≡ length (text_of s)
  length_cut e = omega (arith, m.left, ap length e)

  -- the space and the name are a and b, and r is behind them
  module _ (a b r : List ℕ) {x y : ℕ} (o : text_from s at ≡ a ++ (b ++ r)) (p : x ≡ length a) (q : y ≡ length b) where
    opened : n + (x + y) + length r ≡ length (text_of s)
    opened = omega (arith, m.left, ap length o, length-append a (b ++ r), length-append b r)

    pub body_cut : r ≡ text " <push past end>" → n + (x + y) + 16 ≡ length (text_of s)
    body_cut e = omega (arith, opened, ap length e)

    pub body_whole : {body len z : ℕ} → r ≡ data_text (take len (drop body s)) ++ text_from s (body + len) → z ≡ (if eqb len 0 then 0 else 1 + 2 * len)
        → at < body → body ≤ length s → len ≤ length s - body → x ≤ 1 → y ≤ 22 → Measured s (n + (x + y) + z) (body + len)
    body_whole {body} {len} e f on there l u v =
        let d : List ℕ = data_text (take len (drop body s)) in
        let t : length (take len (drop body s)) ≡ len = length-take-le len (drop body s) (simp length-drop l) in
        let w : length d ≡ (if eqb len 0 then 0 else 1 + 2 * len) = rw t at (data_length (take len (drop body s))) in
        record {
          within = omega arith;
          few = omega (arith, m.few, data_few len);
          left = omega (arith, opened, ap length e, length-append d (text_from s (body + len)));
        }
