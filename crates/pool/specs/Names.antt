-- The name of each opcode, from document 01, module 1, 'Opcodes'. Assumes nothing.
use Rattle.std.specs.Prelude.{List, [], ◌∷◌, ◌++◌, ℕ, ◌-◌, ltb, get_or}
use Prim.Native.String.{String}
use Rattle.std.specs.Prelude.{if◌then◌else◌}
use Rattle.pool.specs.Text.{text, decimal}

-- 0x4c to 0x50: the three length forms, OP_PUSHNUM_NEG1 (0x4f) and OP_RESERVED (0x50)
abbrev pub push_names : List String
push_names =
    "OP_PUSHDATA1" ∷
    "OP_PUSHDATA2" ∷
    "OP_PUSHDATA4" ∷
    "OP_PUSHNUM_NEG1" ∷
    "OP_RESERVED" ∷ []

-- 0x61 to 0xba, in the order of enum opcodetype of Core's script.h, with document 01's OP_CLTV (0xb1) and OP_CSV (0xb2)
abbrev pub core_names : List String
core_names =
    "OP_NOP" ∷
    "OP_VER" ∷
    "OP_IF" ∷
    "OP_NOTIF" ∷
    "OP_VERIF" ∷
    "OP_VERNOTIF" ∷
    "OP_ELSE" ∷
    "OP_ENDIF" ∷
    "OP_VERIFY" ∷
    "OP_RETURN" ∷
    "OP_TOALTSTACK" ∷
    "OP_FROMALTSTACK" ∷
    "OP_2DROP" ∷
    "OP_2DUP" ∷
    "OP_3DUP" ∷
    -- 0x70
    "OP_2OVER" ∷
    "OP_2ROT" ∷
    "OP_2SWAP" ∷
    "OP_IFDUP" ∷
    "OP_DEPTH" ∷
    "OP_DROP" ∷
    "OP_DUP" ∷
    "OP_NIP" ∷
    "OP_OVER" ∷
    "OP_PICK" ∷
    "OP_ROLL" ∷
    "OP_ROT" ∷
    "OP_SWAP" ∷
    "OP_TUCK" ∷
    "OP_CAT" ∷
    "OP_SUBSTR" ∷
    -- 0x80
    "OP_LEFT" ∷
    "OP_RIGHT" ∷
    "OP_SIZE" ∷
    "OP_INVERT" ∷
    "OP_AND" ∷
    "OP_OR" ∷
    "OP_XOR" ∷
    "OP_EQUAL" ∷
    "OP_EQUALVERIFY" ∷
    "OP_RESERVED1" ∷
    "OP_RESERVED2" ∷
    "OP_1ADD" ∷
    "OP_1SUB" ∷
    "OP_2MUL" ∷
    "OP_2DIV" ∷
    "OP_NEGATE" ∷
    -- 0x90
    "OP_ABS" ∷
    "OP_NOT" ∷
    "OP_0NOTEQUAL" ∷
    "OP_ADD" ∷
    "OP_SUB" ∷
    "OP_MUL" ∷
    "OP_DIV" ∷
    "OP_MOD" ∷
    "OP_LSHIFT" ∷
    "OP_RSHIFT" ∷
    "OP_BOOLAND" ∷
    "OP_BOOLOR" ∷
    "OP_NUMEQUAL" ∷
    "OP_NUMEQUALVERIFY" ∷
    "OP_NUMNOTEQUAL" ∷
    "OP_LESSTHAN" ∷
    -- 0xa0
    "OP_GREATERTHAN" ∷
    "OP_LESSTHANOREQUAL" ∷
    "OP_GREATERTHANOREQUAL" ∷
    "OP_MIN" ∷
    "OP_MAX" ∷
    "OP_WITHIN" ∷
    "OP_RIPEMD160" ∷
    "OP_SHA1" ∷
    "OP_SHA256" ∷
    "OP_HASH160" ∷
    "OP_HASH256" ∷
    "OP_CODESEPARATOR" ∷
    "OP_CHECKSIG" ∷
    "OP_CHECKSIGVERIFY" ∷
    "OP_CHECKMULTISIG" ∷
    "OP_CHECKMULTISIGVERIFY" ∷
    -- 0xb0
    "OP_NOP1" ∷
    "OP_CLTV" ∷
    "OP_CSV" ∷
    "OP_NOP4" ∷
    "OP_NOP5" ∷
    "OP_NOP6" ∷
    "OP_NOP7" ∷
    "OP_NOP8" ∷
    "OP_NOP9" ∷
    "OP_NOP10" ∷
    "OP_CHECKSIGADD" ∷ []

-- the name of an opcode, as bytes
unfoldable pub name_of : ℕ → List ℕ
name_of code =
    if ltb code 0x4c then text "OP_PUSHBYTES_" ++ decimal code
    else if ltb code 0x51 then text (get_or push_names (code - 0x4c) "")
    else if ltb code 0x61 then text "OP_PUSHNUM_" ++ decimal (code - 0x50)
    else if ltb code 0xbb then text (get_or core_names (code - 0x61) "")
    else if ltb code 0xff then text "OP_RETURN_" ++ decimal code
    else text "OP_INVALIDOPCODE"
