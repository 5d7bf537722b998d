-- The test `n == i64::MIN` compares bits: an `i64` is held as `of_z w64 z`. Assumes nothing.
use mathlib.Core.Path.{◌≡◌}
use mathlib.Core.Bool.{true}
use Prim.Native.Nat.{suc, ◌^◌}
use native.Mathlib.Omega.{arith}
use borrow.Author.Tests.{eq-eqb}
use lib.IntN.{ℤ, pos, negsuc}
use mir.Syntax.{w64}
use mir.Val.{SFits, of_z}
use Rattle.numbers.specs.Answer.{is_least}

pub is_least_lem : (n : ℤ) → SFits w64 n → of_z w64 n ≡ 9223372036854775808 → is_least n ≡ true
is_least_lem (pos n) f e = absurd (omega (arith, f.sfits))
is_least_lem (negsuc n) f e = eq-eqb (suc n) (2 ^ 63) (omega (arith, f.sfits))
