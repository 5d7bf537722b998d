-- Templates whose bytes stand at fixed places of a script. Assumes nothing.
use Rattle.std.specs.Prelude.{Bool, ◌&&◌, ◌||◌, List, [], ◌∷◌, ◌++◌, ℕ, ◌+◌, ◌-◌, leb, eqb, length, get_or, drop}
use Rattle.std.specs.Prelude.{Option, None, Some}
use Rattle.std.specs.Prelude.{if◌then◌else◌}
use Rattle.opcodes.specs.Core.{OP_0, OP_1, OP_16, OP_RETURN, OP_DUP, OP_EQUAL, OP_EQUALVERIFY, OP_HASH160, OP_CHECKSIG, decode_op_n}

-- CScript::IsPayToScriptHash of Core's script/script.cpp: size 23; byte 0 is OP_HASH160, byte 1 is 0x14, byte 22 is OP_EQUAL
unfoldable pub is_pay_to_script_hash : List ℕ → Bool
is_pay_to_script_hash s = eqb (length s) 23 && eqb (get_or s 0 0) OP_HASH160 && eqb (get_or s 1 0) 0x14 && eqb (get_or s 22 0) OP_EQUAL

-- 'Pay to pubkey hash': 25 bytes, 76 a9 14 .. 88 ac
unfoldable pub is_pay_to_pubkey_hash : List ℕ → Bool
is_pay_to_pubkey_hash s =
    eqb (length s) 25 && eqb (get_or s 0 0) OP_DUP && eqb (get_or s 1 0) OP_HASH160 && eqb (get_or s 2 0) 0x14 && eqb (get_or s 23 0) OP_EQUALVERIFY
    && eqb (get_or s 24 0) OP_CHECKSIG

-- CScript::IsWitnessProgram of Core's script/script.cpp, which BIP 141 states: size from 4 to 42; byte 0 is OP_0 or from OP_1 to OP_16; byte 1
-- plus 2 equals the size
unfoldable pub is_witness_program : List ℕ → Bool
is_witness_program s =
    leb 4 (length s) && leb (length s) 42
    && (eqb (get_or s 0 0) OP_0 || (leb OP_1 (get_or s 0 0) && leb (get_or s 0 0) OP_16))
    && eqb (get_or s 1 0 + 2) (length s)

-- its version is DecodeOP_N of byte 0
abbrev pub version_of : List ℕ → ℕ
version_of s = decode_op_n (get_or s 0 0)

-- and its program is the bytes from 2 on
abbrev pub program_length : List ℕ → ℕ
program_length s = length s - 2

-- the version of a witness program; nothing for all else
unfoldable pub witness_version : List ℕ → Option ℕ
witness_version s = if is_witness_program s then Some (version_of s) else None

-- a witness program of this version, with a program of so many bytes
unfoldable pub is_program_of : (version size : ℕ) → List ℕ → Bool
is_program_of version size s = is_witness_program s && eqb (version_of s) version && eqb (program_length s) size

-- BIP 141: version 0 with 20 bytes
abbrev pub is_pay_to_witness_pubkey_hash : List ℕ → Bool
is_pay_to_witness_pubkey_hash s = is_program_of 0 20 s

-- BIP 141: version 0 with 32 bytes
abbrev pub is_pay_to_witness_script_hash : List ℕ → Bool
is_pay_to_witness_script_hash s = is_program_of 0 32 s

-- BIP 341: version 1 with a 32-byte program
abbrev pub is_pay_to_taproot : List ℕ → Bool
is_pay_to_taproot s = is_program_of 1 32 s

-- 'P2A is 51 02 4e 73'
unfoldable pub is_pay_to_anchor : List ℕ → Bool
is_pay_to_anchor s = eqb (length s) 4 && eqb (get_or s 0 0) 0x51 && eqb (get_or s 1 0) 0x02 && eqb (get_or s 2 0) 0x4e && eqb (get_or s 3 0) 0x73

-- a direct push of a key of so many bytes, and OP_CHECKSIG
unfoldable pub is_key_of : ℕ → List ℕ → Bool
is_key_of size s = eqb (length s) (size + 2) && eqb (get_or s 0 0) size && eqb (get_or s (size + 1) 0) OP_CHECKSIG

-- 'P2PK': 67 bytes 41 .. ac or 35 bytes 21 .. ac
unfoldable pub is_pay_to_pubkey : List ℕ → Bool
is_pay_to_pubkey s = is_key_of 65 s || is_key_of 33 s

-- 'OP_RETURN': first byte 0x6a
unfoldable pub is_op_return : List ℕ → Bool
is_op_return s = leb 1 (length s) && eqb (get_or s 0 0) OP_RETURN

-- 'p2wpkh_script_code': with hash h, 76 a9 14 h 88 ac
abbrev pub code_for : List ℕ → List ℕ
code_for h = OP_DUP ∷ OP_HASH160 ∷ 0x14 ∷ (h ++ (OP_EQUALVERIFY ∷ OP_CHECKSIG ∷ []))

-- the program of a P2WPKH script is its hash; for all else nothing is written
unfoldable pub script_code : List ℕ → List ℕ
script_code s = if is_pay_to_witness_pubkey_hash s then code_for (drop 2 s) else []
