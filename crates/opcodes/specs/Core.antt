-- Opcodes by their names in Core's script/script.h, enum opcodetype: those that a definition tests for. Assumes nothing.
use Rattle.std.specs.Prelude.{ℕ, ◌-◌, eqb}
use Rattle.std.specs.Prelude.{if◌then◌else◌}

abbrev pub OP_0 : ℕ
OP_0 = 0x00

abbrev pub OP_PUSHDATA1 : ℕ
OP_PUSHDATA1 = 0x4c

abbrev pub OP_PUSHDATA2 : ℕ
OP_PUSHDATA2 = 0x4d

abbrev pub OP_PUSHDATA4 : ℕ
OP_PUSHDATA4 = 0x4e

abbrev pub OP_1NEGATE : ℕ
OP_1NEGATE = 0x4f

abbrev pub OP_1 : ℕ
OP_1 = 0x51

abbrev pub OP_16 : ℕ
OP_16 = 0x60

abbrev pub OP_VERIFY : ℕ
OP_VERIFY = 0x69

abbrev pub OP_RETURN : ℕ
OP_RETURN = 0x6a

abbrev pub OP_DUP : ℕ
OP_DUP = 0x76

abbrev pub OP_EQUAL : ℕ
OP_EQUAL = 0x87

abbrev pub OP_EQUALVERIFY : ℕ
OP_EQUALVERIFY = 0x88

abbrev pub OP_HASH160 : ℕ
OP_HASH160 = 0xa9

abbrev pub OP_CHECKSIG : ℕ
OP_CHECKSIG = 0xac

abbrev pub OP_CHECKSIGVERIFY : ℕ
OP_CHECKSIGVERIFY = 0xad

abbrev pub OP_CHECKMULTISIG : ℕ
OP_CHECKMULTISIG = 0xae

abbrev pub OP_CHECKMULTISIGVERIFY : ℕ
OP_CHECKMULTISIGVERIFY = 0xaf

abbrev pub OP_INVALIDOPCODE : ℕ
OP_INVALIDOPCODE = 0xff

-- CScript::DecodeOP_N of script/script.h: 0 for OP_0, else opcode - (OP_1 - 1)
abbrev pub decode_op_n : ℕ → ℕ
decode_op_n opcode = if eqb opcode OP_0 then 0 else opcode - (OP_1 - 1)
