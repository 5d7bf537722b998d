-- `cast_to_bool` by the last byte and those before it. Assumes nothing.
use mathlib.Core.Path.{◌≡◌, refl}
use mathlib.Core.Bool.{Bool, true, false, not}
use mathlib.Core.List.{List, [], ◌∷◌}
use Prim.Native.Nat.{ℕ, suc, ◌-◌, ◌<◌, ◌≤◌}
use native.Mathlib.Omega.{arith}
use borrow.Author.Tests.{ne_eqb}
use lib.Dec.{eqb}
use lib.ListN.{length, take}
use Rattle.std.specs.Prelude.{◌&&◌, ◌||◌, if◌then◌else◌}
use Rattle.std.specs.List.{list_any}
use Rattle.numbers.specs.ScriptNum.{cast_to_bool, back}
use Rattle.numbers.proofs.Reading.{back_cons}

-- whether a byte is not 0
abbrev pub is_set : ℕ → Bool
is_set b = not (eqb b 0)

pub of_none : (v : List ℕ) → length v < 1 → cast_to_bool v ≡ false
unfolding cast_to_bool
of_none [] h = refl
of_none (b ∷ v) h = absurd (omega arith)

one : (z s : Bool) → (if z then false else if s then false else true) ≡ (not z && not s)
one true s = refl
one false true = refl
one false false = refl

more : (z f r s : Bool) → f ≡ (r || s) → (if z then f else true) ≡ ((not z || r) || s)
more true f r s e = e
more false f r s e = refl

pub by_last : (v : List ℕ) → 1 ≤ length v → cast_to_bool v ≡ (list_any is_set (take (length v - 1) v) || (is_set (back v) && not (eqb (back v) 128)))
unfolding cast_to_bool
by_last [] h = absurd (omega arith)
by_last (b ∷ []) h = one (eqb b 0) (eqb b 128)
by_last (b ∷ c ∷ v) h =
    let l : suc (suc (length v)) - 1 ≡ suc (suc (length v) - 1) = omega arith in
    rw (ne_eqb (suc (length v)) 0 (omega arith), back_cons, l) (more (eqb b 0) _ _ _ (by_last (c ∷ v) (omega arith)))
