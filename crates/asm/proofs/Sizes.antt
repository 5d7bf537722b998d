-- How long the parts of a text are. Assumes nothing.
use mathlib.Core.Path.{◌≡◌, refl}
use mathlib.Core.List.{List, [], ◌∷◌}
use Prim.Native.Nat.{ℕ, suc, ◌+◌, ◌*◌, ◌≤◌, ◌<◌}
use native.Mathlib.Omega.{arith}
use borrow.Author.Tests.{ne_eqb}
use lib.Dec.{eqb}
use lib.ListN.{length}
use Rattle.std.specs.Prelude.{if◌then◌else◌}
use Rattle.laws.proofs.Test.{by_test}
use Rattle.pool.proofs.Distinct.{name_short}
use Rattle.asm.specs.Asm.{hex, opcode_text, data_text, space_at}

pub hex_length : (bytes : List ℕ) → length (hex bytes) ≡ 2 * length bytes
unfolding hex
hex_length [] = refl
hex_length (b ∷ bytes) = omega (arith, hex_length bytes)

pub data_length : (bytes : List ℕ) → length (data_text bytes) ≡ (if eqb (length bytes) 0 then 0 else 1 + 2 * length bytes)
unfolding data_text
data_length [] = refl
data_length (b ∷ bytes) = simp (ne_eqb (suc (length bytes)) 0 (omega arith)) (omega (arith, hex_length (b ∷ bytes)))

pub space_short : (at : ℕ) → length (space_at at) ≤ 1
unfolding space_at
space_short at = by_test (λ (l : List ℕ). length l ≤ 1) (eqb at 0) (λ e. omega arith) (λ e. omega arith)

pub opcode_short : (code : ℕ) → code < 256 → length (opcode_text code) ≤ 22
unfolding opcode_text
opcode_short code h = by_test (λ (l : List ℕ). length l ≤ 22) (eqb code 0) (λ e. omega arith) (λ e. name_short code h)
