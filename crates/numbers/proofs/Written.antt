-- What `serialize` gives: its bytes are `Coded`, each is below 256, and their count follows from the magnitude. Assumes nothing.
use mathlib.Core.Path.{◌≡◌, refl, ap}
use mathlib.Core.Logic.{⊎_elim}
use mathlib.Core.Bool.{Bool, true, false}
use mathlib.Core.List.{[]}
use Prim.Native.Nat.{ℕ, zero, suc, ◌+◌, ◌-◌, ◌*◌, ◌/◌, ◌^◌, ◌≤◌, ◌<◌}
use native.Mathlib.Omega.{arith}
use borrow.Author.Tests.{le-ltb, eqb-false, ne_eqb}
use lib.Count.{count_leading_zeros, leading_top}
use lib.IntN.{ℤ, pos, negsuc, neg_ℤ, nat_abs}
use lib.ListN.{length}
use lib.Pow.{pow_pos}
use lib.Signed.{lt_z}
use mir.Syntax.{w64}
use mir.Val.{SFits}
use Rattle.std.specs.Prelude.{if◌then◌else◌}
use Rattle.numbers.specs.ScriptNum.{low_bytes, close_sign, serialize}
use Rattle.numbers.specs.Answer.{is_least}
use Rattle.numbers.proofs.Coded.{Coded, Bytes, bit, bit_is, closed_coded, coded_bytes, coded_length, short_small, small_short}

abbrev pub signed : Bool → ℕ → ℤ
signed neg m = if neg then neg_ℤ (pos m) else pos m

-- every number is one of these
pub by_sign : (P : ℤ → Type 0) → P (pos 0) → ((neg : Bool) (m : ℕ) → 0 < m → P (signed neg m)) → (n : ℤ) → P n
by_sign P z f (pos zero) = z
by_sign P z f (pos (suc m)) = f false (suc m) (omega arith)
by_sign P z f (negsuc m) = f true (suc m) (omega arith)

pub signed_size : (neg : Bool) (m : ℕ) → nat_abs (signed neg m) ≡ m
signed_size true zero = refl
signed_size true (suc m) = refl
signed_size false m = refl

pub serialize_zero : serialize (pos 0) ≡ []
unfolding serialize
serialize_zero = refl

pub serialize_closes : (n : ℤ) → 0 < nat_abs n → serialize n ≡ close_sign (lt_z n (pos 0)) (low_bytes (nat_abs n) (nat_abs n))
unfolding serialize
serialize_closes n p = rw (ne_eqb (nat_abs n) 0 (omega arith))

pub serialize_coded : (neg : Bool) (m : ℕ) → 0 < m → Coded (bit neg) m (serialize (signed neg m))
serialize_coded true zero p = absurd (omega arith)
serialize_coded true (suc m) p = rw (serialize_closes (negsuc m) p) (closed_coded true (suc m) p)
serialize_coded false m p = rw (serialize_closes (pos m) p, le-ltb m 0 (omega arith)) (closed_coded false m p)

pub serialize_bytes : (n : ℤ) → Bytes (serialize n)
serialize_bytes =
    by_sign (λ n. Bytes (serialize n)) (rw serialize_zero (λ i. omega arith))
    (λ neg m p. coded_bytes (⊎_elim (λ e. omega arith) (λ e. omega arith) (bit_is neg)) (serialize_coded neg m p))

pub serialize_short : (k : ℕ) (n : ℤ) → nat_abs n < 2 ^ (8 * k - 1) → length (serialize n) ≤ k
serialize_short k =
    by_sign (λ n. nat_abs n < 2 ^ (8 * k - 1) → length (serialize n) ≤ k) (λ h. rw serialize_zero (omega arith))
    (λ neg m p h. small_short (serialize_coded neg m p) k (rw signed_size at h))

pub serialize_small : (k : ℕ) (n : ℤ) → length (serialize n) ≤ k → nat_abs n < 2 ^ (8 * k - 1)
serialize_small k =
    by_sign (λ n. length (serialize n) ≤ k → nat_abs n < 2 ^ (8 * k - 1)) (λ h. pow_pos (8 * k - 1))
    (λ neg m p h. rw signed_size (short_small (serialize_coded neg m p) k h))

in_range : (n : ℤ) → SFits w64 n → is_least n ≡ false → nat_abs n < 2 ^ 63
in_range (pos n) f e = f.sfits
in_range (negsuc n) f e = omega (arith, f.sfits, eqb-false (suc n) (2 ^ 63) e)

-- a 64-bit number other than -2^63 takes at most eight bytes
pub serialize_fits : (n : ℤ) → SFits w64 n → is_least n ≡ false → length (serialize n) ≤ 8
serialize_fits n f e = serialize_short 8 n (in_range n f e)

-- the count of bytes from the leading zeros
pub serialize_count : (n : ℤ) → 0 < nat_abs n → nat_abs n < 2 ^ 64 → (64 - count_leading_zeros 64 (nat_abs n)) / 8 + 1 ≡ length (serialize n)
serialize_count =
    by_sign (λ n. 0 < nat_abs n → nat_abs n < 2 ^ 64 → (64 - count_leading_zeros 64 (nat_abs n)) / 8 + 1 ≡ length (serialize n)) (λ p. absurd (omega arith))
    (λ neg m p. rw signed_size
    (λ q h.
    let t = leading_top 64 m p h in
    omega (arith, coded_length t.0 t.2 t.3 (serialize_coded neg m p))))

pub serialize_empty : (n : ℤ) → nat_abs n ≡ 0 → serialize n ≡ []
serialize_empty (pos zero) e = serialize_zero
serialize_empty (pos (suc n)) e = absurd (omega arith)
serialize_empty (negsuc n) e = absurd (omega arith)

pub serialize_some : (n : ℤ) → 0 < length (serialize n) → 0 < nat_abs n
serialize_some (pos zero) h = absurd (omega (arith, ap length serialize_zero))
serialize_some (pos (suc n)) h = omega arith
serialize_some (negsuc n) h = omega arith
