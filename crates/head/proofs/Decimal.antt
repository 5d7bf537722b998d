-- The library writes a number of 64 bits in decimal as `decimal` says. Assumes nothing.
use mathlib.Core.Path.{◌≡◌, refl}
use mathlib.Core.Bool.{false}
use mathlib.Core.List.{List, [], ◌∷◌}
use mathlib.Core.Logic.{⊎_elim}
use Prim.Native.Nat.{ℕ, zero, suc, ◌+◌, ◌*◌, ◌/◌, ◌%◌, ◌^◌, ◌≤◌, ◌<◌}
use native.Mathlib.Nat.{pow-suc}
use native.Mathlib.Omega.{arith}
use borrow.Author.Tests.{lt-ltb, le-ltb, eq-eqb, ne_eqb}
use Rattle.std.specs.Fmt.{decimal as printed, digits as printed_digits, digits_onto}
use Rattle.laws.proofs.Test.{lt_or_le}
use Rattle.pool.specs.Text.{digits, decimal}

-- a number of two digits or more has digits left
digits_left : (k n : ℕ) → 10 ≤ n → n < 10 ^ suc k → 0 < k
digits_left zero n m h = absurd (omega (arith, pow-suc 10 0))
digits_left (suc k) n m h = omega arith

same : (k j n : ℕ) (rest : List ℕ) → k ≤ j → 0 < k → n < 10 ^ k → digits_onto j 10 false n rest ≡ digits k n rest
unfolding digits
same zero j n rest l p h = absurd (omega arith)
same (suc k) zero n rest l p h = absurd (omega arith)
same (suc k) (suc j) n rest l p h =
    let e : 10 ^ suc k ≡ 10 ^ k * 10 = pow-suc 10 k in
    let last : n % 10 < 10 = omega arith in
    ⊎_elim
    (λ (s : n < 10).
    let whole : n % 10 ≡ n = omega arith in
    rw (eq-eqb (n / 10) 0 (omega arith), lt-ltb (n % 10) 10 last, lt-ltb n 10 s, whole) refl)
    (λ (m : 10 ≤ n).
    let more : 0 < k = digits_left k n m h in
    rw (ne_eqb (n / 10) 0 (λ z. omega arith), lt-ltb (n % 10) 10 last, le-ltb n 10 m)
    (same k j (n / 10) ((48 + n % 10) ∷ rest) (omega arith) more (omega (arith, e))))
    (lt_or_le n 10)

pub same_decimal : (n : ℕ) → n < 2 ^ 64 → printed n ≡ decimal n
unfolding decimal printed_digits
same_decimal n h = same 20 64 n [] (omega arith) (omega arith) (omega arith)
