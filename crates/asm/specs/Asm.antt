-- The text of a script, from document 01, 'Text', in the order of the crate's bytes_to_asm_fmt. Assumes nothing.
use Rattle.std.specs.Prelude.{List, [], ◌∷◌, ◌++◌, ℕ, zero, suc, ◌+◌, ◌-◌, ◌/◌, ◌%◌, min, ltb, leb, eqb, length, get_or, take, drop}
use Rattle.std.specs.Prelude.{if◌then◌else◌}
use Rattle.laws.specs.Said.{Said, answers}
use Rattle.laws.specs.Buffer.{writes}
use Rattle.refusal.specs.Refusal.{within_limit}
use Rattle.opcodes.specs.Opcode.{sort_of, length_bytes_after}
use Rattle.pool.specs.Text.{text}
use Rattle.pool.specs.Names.{name_of}
use Rattle.script.specs.Script.{read_le}
use Rattle.opcodes.specs.Core.{OP_PUSHDATA1}

-- a lower-case hex digit
abbrev pub hex_digit : ℕ → ℕ
hex_digit n = get_or (text "0123456789abcdef") n 0

-- 'lower-case hex': two digits a byte
unfoldable pub hex : List ℕ → List ℕ
hex [] = []
hex (b ∷ bs) = hex_digit (b / 16) ∷ hex_digit (b % 16) ∷ hex bs

-- 'the opcode's name (byte 0 is OP_0)'
unfoldable pub opcode_text : ℕ → List ℕ
opcode_text code = if eqb code 0 then text "OP_0" else name_of code

-- 'for a nonempty push, a space and lower-case hex'
unfoldable pub data_text : List ℕ → List ℕ
data_text bytes = if eqb (length bytes) 0 then [] else text " " ++ hex bytes

-- 'One space between instructions': before each but the one at the script's front
unfoldable pub space_at : ℕ → List ℕ
space_at at = if eqb at 0 then [] else text " "

-- where the data of the instruction at a place start
unfoldable pub data_at : List ℕ → ℕ → ℕ
data_at s at = at + 1 + length_bytes_after (sort_of (get_or s at 0))

-- data_len: a direct push's opcode, else what the length bytes say, which is 0 where there are none
unfoldable pub data_len : List ℕ → ℕ → ℕ
data_len s at =
    if ltb (get_or s at 0) OP_PUSHDATA1 then get_or s at 0
    else read_le (length_bytes_after (sort_of (get_or s at 0))) s (at + 1)

-- 'A cut body writes `<push past end>` in place of the hex'
unfoldable pub body_text : List ℕ → ℕ → ℕ → List ℕ
body_text s body len =
    if ltb (length s - body) len then text " " ++ text "<push past end>"
    else data_text (take len (drop body s))

-- 'Cut length bytes write `<unexpected end>` with neither name nor space before it'
unfoldable pub text_at : List ℕ → ℕ → List ℕ
text_at s at =
    if ltb (length s) (data_at s at) then text "<unexpected end>"
    else space_at at ++ (opcode_text (get_or s at 0) ++ body_text s (data_at s at) (data_len s at))

-- the next instruction starts behind the data; 'at either, the text stops': behind a cut push nothing is left
unfoldable pub next_place : List ℕ → ℕ → ℕ
next_place s at = min (length s) (data_at s at + data_len s at)

-- while let Some(byte) = iter.next(), for at most so many turns
unfoldable pub text_for : ℕ → List ℕ → ℕ → List ℕ
text_for zero s at = []
text_for (suc turns) s at = if leb (length s) at then [] else text_at s at ++ text_for turns s (next_place s at)

-- each turn takes a byte at least
unfoldable pub text_from : List ℕ → ℕ → List ℕ
text_from s at = text_for (length s - at) s at

-- the text of a script
unfoldable pub text_of : List ℕ → List ℕ
text_of s = text_from s 0

-- the text's length, or refusal 1
unfoldable pub asm_len_says : List ℕ → Said ℕ
asm_len_says s = within_limit s (answers (length (text_of s)))

-- the text written to a buffer of so many bytes, or refusal 1, then 7
unfoldable pub asm_says : List ℕ → ℕ → Said ℕ
asm_says s room = within_limit s (writes (text_of s) room)
