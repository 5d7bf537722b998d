-- A witness program as a script: BIP 141, 'Witness program', and document 01, 'Witness program'. Assumes nothing.
use Rattle.std.specs.Prelude.{◌≡◌, Bool, true, not, ◌&&◌, ◌||◌, List, [], ◌∷◌, ℕ, ◌+◌, ◌≤◌, ltb, eqb, length, drop}
use Rattle.std.specs.Prelude.{if◌then◌else◌}
use Rattle.laws.specs.Said.{Said, refuses}
use Rattle.laws.specs.Buffer.{writes}
use Rattle.fixed.specs.Fixed.{version_of, is_witness_program}

-- 'version byte 0 or 0x50 + version'
abbrev pub version_byte : ℕ → ℕ
version_byte version = if eqb version 0 then 0 else 0x50 + version

-- 'version byte 0 or 0x50 + version, length, program'
unfoldable pub witness_bytes : ℕ → List ℕ → List ℕ
witness_bytes version program = version_byte version ∷ length program ∷ program

-- BIP 141: version 0 has a program of 20 or of 32 bytes
abbrev pub wrong_v0 : ℕ → ℕ → Bool
wrong_v0 version len = eqb version 0 && not (eqb len 20 || eqb len 32)

-- 'Refusals by number': 12, 10, 11, and 7 last
unfoldable pub witness_says : ℕ → List ℕ → ℕ → Said ℕ
witness_says version program room =
    if ltb 16 version then refuses 12 []
    else if ltb (length program) 2 || ltb 40 (length program) then refuses 10 []
    else if wrong_v0 version (length program) then refuses 11 []
    else writes (witness_bytes version program) room

-- the bytes after the version and the length
abbrev pub program_of : List ℕ → List ℕ
program_of s = drop 2 s

-- a script is a witness program of this version with this program
pub record ReadsBack (version : ℕ) (program s : List ℕ) : Type 0 where
  pub witness : is_witness_program s ≡ true
  pub version_is : version_of s ≡ version
  pub program_is : program_of s ≡ program

-- a version's opcode, a direct push of 2 to 40 bytes, which is their number and then they, and nothing else
abbrev pub VersionAndPush : List ℕ → Type 0
VersionAndPush s = (version : ℕ) × (program : List ℕ) × (s ≡ witness_bytes version program) × (version ≤ 16) × (2 ≤ length program) × (length program ≤ 40)
