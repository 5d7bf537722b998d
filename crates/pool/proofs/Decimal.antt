-- A number in decimal has turns enough: each takes a digit off, and what is below 10 needs no other. Assumes nothing.
use mathlib.Core.Path.{◌≡◌, ap}
use mathlib.Core.List.{List, [], ◌∷◌}
use Prim.Native.Nat.{ℕ, zero, suc, ◌+◌, ◌/◌, ◌%◌, ◌^◌, ◌≤◌, ◌<◌}
use native.Mathlib.Nat.{lt_of_lt_of_le, pow-suc, pow-le-pow_right}
use native.Mathlib.Omega.{arith}
use borrow.Author.Tests.{lt-ltb}
use lib.Dec.{ltb}
use Rattle.std.specs.Prelude.{if◌then◌else◌}
use Rattle.pool.specs.Text.{digits, decimal}

enough : (a b n : ℕ) (rest : List ℕ) → n < 10 ^ suc a → n < 10 ^ suc b → digits (suc a) n rest ≡ digits (suc b) n rest
unfolding digits
enough zero b n rest h g = rw (lt-ltb n 10 h)
enough (suc a) zero n rest h g = rw (lt-ltb n 10 g)
enough (suc a) (suc b) n rest h g =
    ap (λ (l : List ℕ). if ltb n 10 then (48 + n) ∷ rest else l)
    (enough a b (n / 10) ((48 + n % 10) ∷ rest) (omega (arith, pow-suc 10 (suc a))) (omega (arith, pow-suc 10 (suc b))))

-- As many turns as a number has digits are enough, and one is for 0: more change nothing.
pub digits_turns : (most turns n : ℕ) (rest : List ℕ) → 0 < most → most ≤ turns → n < 10 ^ most → digits turns n rest ≡ digits most n rest
digits_turns zero turns n rest p l h = absurd (omega arith)
digits_turns (suc most) zero n rest p l h = absurd (omega arith)
digits_turns (suc most) (suc turns) n rest p l h = enough turns most n rest (lt_of_lt_of_le h (pow-le-pow_right {n = 10} (omega arith) l)) h

-- Twenty are enough for every number of 20 digits, and so for every number below 2^64.
pub decimal_turns : (turns n : ℕ) → 20 ≤ turns → n < 10 ^ 20 → digits turns n [] ≡ decimal n
unfolding decimal
decimal_turns turns n l h = digits_turns 20 turns n [] (omega arith) l h
