-- A rule that holds at each place of a table, from one test that is computed over the whole table. Assumes nothing.
use mathlib.Core.Path.{◌≡◌, subst}
use mathlib.Core.Logic.{⊎_elim}
use mathlib.Core.Bool.{Bool, true, ◌&&◌}
use Prim.Native.Nat.{ℕ, zero, suc, ◌<◌}
use native.Mathlib.Nat.{not-suc-le-zero}
use native.Mathlib.Omega.{arith}
use Rattle.laws.proofs.Test.{lt_or_le, and_left, and_right}

-- the test f passes at each place below n
abbrev pub every : (ℕ → Bool) → ℕ → Bool
every f zero = true
every f (suc n) = f n && every f n

-- the rule at one place
pub at : (f : ℕ → Bool) (n k : ℕ) → every f n ≡ true → k < n → f k ≡ true
at f zero k t h = absurd (not-suc-le-zero h)
at f (suc n) k t h =
    ⊎_elim (λ l. at f n k (and_right (f n) (every f n) t) l) (λ l. let e : n ≡ k = omega arith in subst (λ (m : ℕ). f m ≡ true) e (and_left (f n) (every f n) t)) (lt_or_le k n)
