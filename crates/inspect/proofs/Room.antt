-- A writer that knows how many bytes its text has: where the buffer is no shorter, it starts with the text. Assumes nothing.
use mathlib.Core.Path.{◌≡◌, refl}
use mathlib.Core.List.{List, ◌++◌}
use Prim.Native.Nat.{ℕ, ◌≤◌}
use native.Mathlib.Omega.{arith}
use borrow.Author.Tests.{le-leb}
use lib.ListN.{length, drop}
use Rattle.laws.specs.Said.{answers}
use Rattle.laws.specs.Buffer.{writes, after}

module _ (w old : List ℕ) (n : ℕ) (e : n ≡ length w) where
  pub room : (new : List ℕ) → n ≤ length old → new ≡ w ++ drop n old → (answers n ≡ writes w (length old)) × (new ≡ after (writes w (length old)) w old)
  room new h g = let l : length w ≤ length old = omega arith in rw (le-leb (length w) (length old) l, g, e) (refl, refl)
