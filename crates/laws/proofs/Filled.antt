-- A buffer that is filled from its front with the bytes of w: after i of them it is `filled w i old`. Assumes nothing.
use mathlib.Core.Path.{◌≡◌, refl, ap}
use mathlib.Core.List.{List, [], ◌∷◌, ◌++◌}
use Prim.Native.Nat.{ℕ, zero, suc, ◌+◌, ◌<◌}
use native.Mathlib.Nat.{le_of_suc-le-suc, not-suc-le-zero}
use native.Mathlib.Numerals.{add-one}
use native.Mathlib.Omega.{arith}
use lib.ListN.{length, take, drop, get_or, set}
use lib.Seq.{take_all}

abbrev pub filled : List ℕ → ℕ → List ℕ → List ℕ
filled w i old = take i w ++ drop i old

put_suc : (w old : List ℕ) (i : ℕ) → i < length w → i < length old → set (filled w i old) i (get_or w i 0) ≡ filled w (suc i) old
put_suc [] old i h k = absurd (not-suc-le-zero h)
put_suc (a ∷ w) [] i h k = absurd (not-suc-le-zero k)
put_suc (a ∷ w) (o ∷ old) zero h k = refl
put_suc (a ∷ w) (o ∷ old) (suc i) h k = ap (λ (l : List ℕ). a ∷ l) (put_suc w old i (le_of_suc-le-suc h) (le_of_suc-le-suc k))

-- one byte more
pub fill_put : (w old : List ℕ) (i x : ℕ) → i < length w → i < length old → x ≡ get_or w i 0 → set (filled w i old) i x ≡ filled w (i + 1) old
fill_put w old i x h k e = rw (e, add-one) (put_suc w old i h k)

-- all of it
pub fill_done : (w old : List ℕ) (i : ℕ) → i ≡ length w → filled w i old ≡ w ++ drop (length w) old
fill_done w old i e = rw (e, take_all (length w) w (omega arith))
