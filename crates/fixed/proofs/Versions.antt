-- What the version of a witness program tells of it. Assumes nothing.
use mathlib.Core.Path.{◌≡◌, refl}
use mathlib.Core.Bool.{Bool, true, false, ◌&&◌, and-true, and-false}
use mathlib.Core.List.{List}
use Rattle.std.specs.Prelude.{None, Some, is_some}
use Rattle.std.specs.Option.{option_eq}
use Prim.Native.Nat.{ℕ, ◌+◌, ◌-◌, ◌≤◌}
use native.Mathlib.Omega.{arith}
use borrow.Author.Tests.{leb-true, eq-eqb, ne_eqb}
use lib.Dec.{eqb}
use lib.ListN.{length}
use Rattle.std.specs.Prelude.{if◌then◌else◌}
use Rattle.fixed.specs.Fixed.{version_of, witness_version, is_program_of, is_witness_program}
use Rattle.laws.proofs.Test.{and_left}

module _ (s : List ℕ) where
  pub some_version : is_some (witness_version s) ≡ is_witness_program s
  unfolding witness_version
  some_version = go (is_witness_program s)
    where
      go : (b : Bool) → is_some (if b then Some (version_of s) else None) ≡ b
      go true = refl
      go false = refl

  pub program_long : is_witness_program s ≡ true → 4 ≤ length s
  unfolding is_witness_program
  program_long e = leb-true 4 (length s) (and_left _ _ (and_left _ _ (and_left _ _ e)))

  module _ (version size : ℕ) where
    -- the script has the length of such a program
    pub same_length : length s ≡ size + 2 → option_eq eqb (witness_version s) (Some version) ≡ is_program_of version size s
    unfolding witness_version is_program_of
    same_length h = rw (eq-eqb (length s - 2) size (omega arith), and-true) (go (is_witness_program s))
      where
        go : (b : Bool) → option_eq eqb (if b then Some (version_of s) else None) (Some version) ≡ (b && eqb (version_of s) version)
        go true = refl
        go false = refl

    pub other_length : (length s ≡ size + 2 → ⊥) → false ≡ is_program_of version size s
    unfolding is_program_of
    other_length h = go (is_witness_program s) refl
      where
        go : (b : Bool) → is_witness_program s ≡ b → false ≡ (b && eqb (version_of s) version && eqb (length s - 2) size)
        go true e = let l = program_long e in rw (ne_eqb (length s - 2) size (λ q. h (omega arith)), and-false)
        go false e = refl
