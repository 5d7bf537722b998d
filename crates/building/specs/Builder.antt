-- What each builder call makes of the script so far, from document 01, 'Builder'. Assumes nothing.
use Rattle.std.specs.Prelude.{false, List, [], ◌∷◌, ◌++◌, ℕ, ◌+◌, ◌-◌, leb, eqb, ℤ, pos, negsuc, length, take}
use Rattle.std.specs.Prelude.{Option, None, Some}
use Rattle.std.specs.Prelude.{if◌then◌else◌}
use Rattle.laws.specs.Said.{Said, answers, refuses}
use Rattle.opcodes.specs.Core.{OP_0, OP_1NEGATE, OP_1, OP_VERIFY}
use Rattle.opcodes.specs.Opcode.{PushForm, direct, pushdata1, pushdata2, pushdata4, verify_of}
use Rattle.script.specs.Instruction.{encode, push}
use Rattle.script.specs.Walk.{Item, Walked, opcode}
use Rattle.script.specs.Walk as walk
use Rattle.script.specs.Run.{walk_from, fold}
use Rattle.numbers.specs.ScriptNum.{serialize}
use Rattle.numbers.specs.Answer.{is_least}

-- 'State: length used and the opcode remembered from the last call': the bytes that are used, and that opcode
pub record State : Type 0 where
  pub bytes : List ℕ
  pub remembered : Option ℕ

-- what a call makes of a state; an integer call can refuse
abbrev pub Call : Type 0
Call = State → Said State

-- new bytes after the used ones, and what is remembered then
abbrev pub appends : List ℕ → Option ℕ → Call
appends new remembered st = answers (record { bytes = st.bytes ++ new; remembered = remembered })

-- an opcode is one byte, and is remembered; any byte is taken, 0 to 78 too
abbrev pub push_opcode : ℕ → Call
push_opcode code = appends (code ∷ []) (Some code)

-- 'A push uses the shortest length form': by the length alone
abbrev pub push_form : ℕ → PushForm
push_form len =
    if leb len 75 then direct
    else if leb len 0xff then pushdata1
    else if leb len 0xffff then pushdata2
    else pushdata4

-- '.. never a number opcode: `05` is pushed as `01 05`'; none is remembered after a data push
unfoldable pub push_slice : List ℕ → Call
push_slice body = appends (encode (push (push_form (length body)) body)) None

-- 'An integer -1 or 1..16 is its opcode, 0 is byte 0'; `negsuc n` is -(n + 1)
abbrev pub int_opcode : ℤ → Option ℕ
int_opcode (pos n) = if eqb n 0 then Some OP_0 else if leb n 16 then Some (OP_1 - 1 + n) else None
int_opcode (negsuc n) = if eqb n 0 then Some OP_1NEGATE else None

-- '.. others are number pushes', and -2^63 is refusal 6
abbrev pub push_number : Option ℕ → ℤ → Call
push_number (Some code) n st = push_opcode code st
push_number None n st = if is_least n then refuses 6 [] else push_slice (serialize n) st

-- push_int; lock time and sequence are 32-bit integers pushed so
unfoldable pub push_int : ℤ → Call
push_int n = push_number (int_opcode n) n

-- the verify form of what is remembered, where it has one
abbrev pub verify_form : Option ℕ → Option ℕ
verify_form None = None
verify_form (Some code) = verify_of code

-- a verify form takes the place of the last byte
abbrev pub push_verified : Option ℕ → Call
push_verified None st = push_opcode OP_VERIFY st
push_verified (Some code) st = push_opcode code (record { bytes = take (length st.bytes - 1) st.bytes; remembered = st.remembered })

-- 'Verify replaces a remembered opcode that has a verify form; else it appends 0x69'
unfoldable pub push_verify : Call
push_verify st = push_verified (verify_form st.remembered) st

-- the opcode of an instruction that is one
abbrev pub opcode_in : Item → Option ℕ
opcode_in (opcode place code) = Some code
opcode_in (walk.push place form body len) = None

-- the walk's last opcode, by the answer that ended the walk
abbrev pub unless_refused : Option ℕ × Said Walked → Option ℕ
unless_refused (last, answers w) = last
unless_refused (last, refuses number values) = None

-- 'the plain walk's last instruction if an opcode and nothing was refused'
unfoldable pub last_if_opcode : List ℕ → Option ℕ
last_if_opcode s = unless_refused (fold (λ last i. opcode_in i) None (walk_from false s 0))

-- 'Bytes taken over as a start remember' that
abbrev pub takes_over : Call
takes_over st = answers (record { bytes = st.bytes; remembered = last_if_opcode st.bytes })
