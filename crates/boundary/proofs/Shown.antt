-- A builder shows no more bytes than its buffer has. Assumes nothing.
use mathlib.Core.Path.{◌≡◌, refl, ap, ◌∙◌}
use mathlib.Core.Bool.{Bool, true, false, ◌||◌}
use mathlib.Core.List.{List}
use Rattle.std.specs.Prelude.{Option}
use Prim.Native.Nat.{ℕ, ◌≤◌}
use native.Mathlib.Omega.{arith}
use borrow.Author.Tests.{ltb-false}
use lib.Dec.{ltb}
use lib.ListN.{length, take, drop}
use lib.Seq.{length-take-le}
use Rattle.laws.proofs.Test.{by_test}
use Rattle.refusal.specs.Refusal.{limit}
use Rattle.building.specs.Lent.{not_last, builder_says, shown_if, shown}

first : (a b : Bool) → (a || b) ≡ false → a ≡ false
first true b e = e
first false b e = refl

module _ (used : ℕ) (remembered : Option ℕ) (buffer : List ℕ) where
  fits : shown used remembered buffer ≤ length buffer
  unfolding shown builder_says
  fits =
      by_test (λ s. shown_if s used ≤ length buffer) (ltb limit used) (λ e. omega arith)
      (λ e. by_test (λ s. shown_if s used ≤ length buffer) (ltb (length buffer) used || not_last remembered used buffer) (λ e. omega arith)
      (λ e. ltb-false (length buffer) used (first (ltb (length buffer) used) (not_last remembered used buffer) e)))

  pub shown_length : {part : List ℕ} → part ≡ take (shown used remembered buffer) (drop 0 buffer) → length part ≡ shown used remembered buffer
  shown_length e = ap length e ∙ length-take-le (shown used remembered buffer) buffer fits
