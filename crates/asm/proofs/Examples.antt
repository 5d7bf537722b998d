-- Worked examples of the text, W6 among them, computed from the definition as one table. Assumes nothing.
use mathlib.Core.Path.{◌≡◌, refl}
use mathlib.Core.List.{List, [], ◌∷◌, map}
use Prim.Native.Nat.{ℕ}
use Rattle.pool.specs.Text.{text, decimal, digits}
use Rattle.pool.specs.Names.{name_of}
use Rattle.script.specs.Script.{read_le}
use Rattle.asm.specs.Asm.{
  hex,
  opcode_text,
  data_text,
  space_at,
  data_at,
  data_len,
  body_text,
  text_at,
  next_place,
  text_for,
  text_from,
  text_of,
}

abbrev scripts : List (List ℕ)
scripts =
    [] ∷
    (0x00 ∷ []) ∷
    (0x51 ∷ 0x4c ∷ []) ∷
    (0x51 ∷ 0x02 ∷ 0x4e ∷ 0x73 ∷ []) ∷
    (0x05 ∷ 0xaa ∷ []) ∷
    (0x4c ∷ 0x00 ∷ []) ∷ []

pub examples :
    map text_of scripts
    ≡ [] ∷
    text "OP_0" ∷
    text "OP_PUSHNUM_1<unexpected end>" ∷
    text "OP_PUSHNUM_1 OP_PUSHBYTES_2 4e73" ∷
    text "OP_PUSHBYTES_5 <push past end>" ∷
    text "OP_PUSHDATA1" ∷ []
unfolding hex opcode_text data_text space_at data_at data_len body_text text_at next_place text_for text_from text_of name_of decimal digits read_le
examples = refl
