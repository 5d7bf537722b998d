-- What is left to write of a number as the loop of `put` goes: 128 and more has its low byte next, less is the last byte, with the sign.
-- Assumes nothing.
use mathlib.Core.Path.{◌≡◌, subst}
use mathlib.Core.List.{List, [], ◌∷◌}
use Prim.Native.Nat.{ℕ, ◌+◌, ◌/◌, ◌%◌, ◌≤◌, ◌<◌}
use native.Mathlib.Nat.{add-zero}
use native.Mathlib.Omega.{arith}
use lib.ListN.{length, get_or, drop, length-drop}
use lib.Seq.{get_or-drop, drop-drop}
use Rattle.numbers.proofs.Coded.{Coded, only, apart, low}

pub data Left (s : ℕ) : ℕ → List ℕ → Type 0 where
  last : {m b : ℕ} → m < 128 → b ≡ m + s → Left s m (b ∷ [])
  next : {m b : ℕ} {v : List ℕ} → 128 ≤ m → b ≡ m % 256 → Left s (m / 256) v → Left s m (b ∷ v)

pub left : {s m : ℕ} {v : List ℕ} → Coded s m v → Left s m v
left (only x y z) = last y z
left {s} {m} (apart {b = b} {c = c} x y z w) =
    let q : 0 ≡ m / 256 = omega arith in
    next {b = b} x (omega arith) (subst (λ (n : ℕ). Left s n (c ∷ [])) q (last {b = c} (omega arith) (omega arith)))
left {s} {m} (low {b = b} {q = q} {c = c} {v = v} x y z f) =
    let e : q ≡ m / 256 = omega arith in
    next {m = m} {b = b} (omega arith) (omega arith) (subst (λ (n : ℕ). Left s n (c ∷ v)) e (left f))

first : {s m : ℕ} {v : List ℕ} → Left s m v → 1 < length v → (get_or v 0 0 ≡ m % 256) × Left s (m / 256) (drop 1 v)
first (last x y) h = absurd (omega arith)
first (next x y r) h = (y, r)

final : {s m : ℕ} {v : List ℕ} → Left s m v → length v ≡ 1 → (m < 128) × (get_or v 0 0 ≡ m + s)
final (last x y) e = (x, y)
final (next x y (last z w)) e = absurd (omega arith)
final (next x y (next z w r)) e = absurd (omega arith)

-- a turn of the loop and its end, at the bytes of w from i on
module _ {s m : ℕ} (w : List ℕ) (i : ℕ) (r : Left s m (drop i w)) where
  pub turn : i + 1 < length w → (get_or w i 0 ≡ m % 256) × Left s (m / 256) (drop (i + 1) w)
  turn h =
      let f = first r (simp length-drop (omega arith)) in
      let g : get_or w i 0 ≡ m % 256 = simp (get_or-drop, add-zero) at f.0 in
      (g, simp drop-drop at f.1)

  pub end : i + 1 ≡ length w → (m < 128) × (get_or w i 0 ≡ m + s)
  end e =
      let f = final r (simp length-drop (omega arith)) in
      (f.0, simp (get_or-drop, add-zero) at f.1)
