-- What is built is a witness script of that version and program, and every witness script is what is built for its own. Assumes nothing.
use mathlib.Core.Path.{◌≡◌, refl, sym, ap, ap₂}
use mathlib.Core.Logic.{◌↔◌, ⊎_elim}
use mathlib.Core.Bool.{Bool, true, ◌&&◌, ◌||◌}
use mathlib.Core.List.{List, [], ◌∷◌}
use Rattle.std.specs.Prelude.{Some}
use Prim.Native.Nat.{ℕ, suc, ◌+◌, ◌-◌, ◌≤◌, ◌<◌}
use native.Mathlib.Omega.{arith}
use borrow.Author.Tests.{le-leb, leb-true, eq-eqb, ne_eqb, eqb-true, eqb-false}
use lib.Dec.{leb, eqb}
use lib.ListN.{length}
use Rattle.std.specs.Prelude.{if◌then◌else◌}
use Rattle.laws.proofs.Test.{by_test, and_left, and_right, either}
use Rattle.opcodes.specs.Core.{decode_op_n}
use Rattle.fixed.specs.Fixed.{witness_version, is_witness_program}
use Rattle.fixed.proofs.Versions.{program_long}
use Rattle.witness.specs.Program.{version_byte, witness_bytes, ReadsBack, VersionAndPush}

-- ---- read back

-- what a version byte is, and says
Byte : ℕ → ℕ → Type 0
Byte version b = ((eqb b 0 || (leb 0x51 b && leb b 0x60)) ≡ true) × ((if eqb b 0 then 0 else b - 0x50) ≡ version)

version_byte_lem : (version : ℕ) → version ≤ 16 → Byte version (version_byte version)
unfolding Byte
version_byte_lem version v =
    by_test (Byte version) (eqb version 0) (λ e. (refl, sym (eqb-true version 0 e))) λ e.
    let h : 0 < version = omega (arith, eqb-false version 0 e) in
    let z = ne_eqb (0x50 + version) 0 (omega arith) in
    (rw (z, le-leb 0x51 (0x50 + version) (omega arith), le-leb (0x50 + version) 0x60 (omega arith)), rw z (omega arith))

-- For each version up to 16 and each program of 2 to 40 bytes.
pub built_is_witness : (version : ℕ) (program : List ℕ) → version ≤ 16 → 2 ≤ length program → length program ≤ 40
    → ReadsBack version program (witness_bytes version program)
unfolding witness_bytes is_witness_program Byte
built_is_witness version program v l m =
    let n : ℕ = suc (suc (length program)) in
    let b = version_byte_lem version v in
    record {
      witness = rw (le-leb 4 n (omega arith), le-leb n 42 (omega arith), b.0, eq-eqb (length program + 2) n (omega arith));
      version_is = b.1;
      program_is = refl;
    }

-- `templates::witness_version` finds that version again.
pub found_again : (version : ℕ) (program : List ℕ) → version ≤ 16 → 2 ≤ length program → length program ≤ 40
    → witness_version (witness_bytes version program) ≡ Some version
unfolding witness_version
found_again version program v l m =
    let b = built_is_witness version program v l m in
    rw b.witness (ap Some b.version_is)

-- ---- every witness program is built so

-- a version byte is the byte of the version that it says
byte_again : (code : ℕ) → (eqb code 0 || (leb 0x51 code && leb code 0x60)) ≡ true → (version_byte (decode_op_n code) ≡ code) × (decode_op_n code ≤ 16)
byte_again code e =
    ⊎_elim (λ z. rw (eqb-true code 0 z) (refl, omega arith))
    (λ r.
    let a = leb-true 0x51 code (and_left _ _ r) in
    let b = leb-true code 0x60 (and_right (leb 0x51 code) _ r) in
    rw (ne_eqb code 0 (omega arith), ne_eqb (code - 0x50) 0 (omega arith)) (omega arith, omega arith))
    (either _ _ e)

taken_apart : (s : List ℕ) → is_witness_program s ≡ true → VersionAndPush s
unfolding is_witness_program witness_bytes
taken_apart [] e = absurd (omega (arith, program_long [] e))
taken_apart (code ∷ []) e = absurd (omega (arith, program_long (code ∷ []) e))
taken_apart (code ∷ len ∷ program) e =
    let n : ℕ = suc (suc (length program)) in
    let sizes : Bool = leb 4 n && leb n 42 in
    let first : Bool = eqb code 0 || (leb 0x51 code && leb code 0x60) in
    let most = leb-true n 42 (and_right (leb 4 n) _ (and_left sizes first (and_left _ _ e))) in
    let is : len ≡ length program = omega (arith, eqb-true (len + 2) n (and_right (sizes && first) _ e)) in
    let b = byte_again code (and_right sizes first (and_left _ _ e)) in
    (decode_op_n code, program, ap₂ (λ (x y : ℕ). x ∷ y ∷ program) (sym b.0) is, b.1, omega (arith, program_long (code ∷ len ∷ program) e), omega arith)

-- BIP 141: a script is a witness program exactly if it is the opcode of a version from 0 to 16, a direct push of 2 to 40 bytes, and nothing else.
pub witness_exactly : (s : List ℕ) → (is_witness_program s ≡ true) ↔ VersionAndPush s
witness_exactly s = (taken_apart s, λ p. rw p.2 (built_is_witness p.0 p.1 p.3 p.4 p.5).witness)
