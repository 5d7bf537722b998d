-- Opcode bytes, from document 01, 'Opcodes'. Assumes nothing.
use Rattle.std.specs.Prelude.{Option, None, Some}
use Rattle.std.specs.Prelude.{ℕ, ◌-◌, ltb, eqb}
use Rattle.std.specs.Prelude.{if◌then◌else◌}
use Rattle.opcodes.specs.declared.Form.{Form}
use Rattle.opcodes.specs.declared.Form.TheVariants.{Direct, PushData1, PushData2, PushData4}
use Rattle.opcodes.specs.declared.Class.{Class}
use Rattle.opcodes.specs.declared.Class.TheVariants.{Push, PushNum, Ordinary}

-- how a push states its length: in the opcode itself, or in the length bytes of OP_PUSHDATA1, 2, 4
pub data PushForm : Type 0 where
  direct : PushForm
  pushdata1 : PushForm
  pushdata2 : PushForm
  pushdata4 : PushForm

-- 1, 2, 4 little-endian length bytes, none for a direct push
abbrev pub length_bytes : PushForm → ℕ
length_bytes direct = 0
length_bytes pushdata1 = 1
length_bytes pushdata2 = 2
length_bytes pushdata4 = 4

-- a push of a form, a number opcode, any other opcode
pub data Sort : Type 0 where
  push : PushForm → Sort
  number : Sort
  plain : Sort

-- byte 0 to 75 is a push of that many bytes; 76, 77, 78 are OP_PUSHDATA1, 2, 4; 0x51 to 0x60 carry numbers; all others are plain
abbrev pub sort_of : ℕ → Sort
sort_of code =
    if ltb code 76 then push direct
    else if eqb code 76 then push pushdata1
    else if eqb code 77 then push pushdata2
    else if eqb code 78 then push pushdata4
    else if ltb code 0x51 then plain
    else if ltb code 0x61 then number
    else plain

-- how many length bytes follow an opcode of a sort
abbrev pub length_bytes_after : Sort → ℕ
length_bytes_after (push form) = length_bytes form
length_bytes_after number = 0
length_bytes_after plain = 0

-- 0x51 to 0x60 carry numbers 1 to 16
abbrev pub pushnum_of : ℕ → Option ℕ
pushnum_of code = if ltb code 0x51 then None else if ltb code 0x61 then Some (code - 0x50) else None

-- verify forms: 0x87 to 0x88, 0x9c to 0x9d, 0xac to 0xad, 0xae to 0xaf
abbrev pub verify_of : ℕ → Option ℕ
verify_of code =
    if eqb code 0x87 then Some 0x88
    else if eqb code 0x9c then Some 0x9d
    else if eqb code 0xac then Some 0xad
    else if eqb code 0xae then Some 0xaf
    else None

-- what the code's answers say
abbrev pub said_form : Form → PushForm
said_form Direct = direct
said_form PushData1 = pushdata1
said_form PushData2 = pushdata2
said_form PushData4 = pushdata4

abbrev pub said_class : Class → Sort
said_class (Push form) = push (said_form form)
said_class PushNum = number
said_class Ordinary = plain
