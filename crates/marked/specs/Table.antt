-- Document 01, 'Marked examples', W1 to W12 and the inspector's, W2, W5 and W6 as document 02's 'Two' amends them: in each line what the definitions compute, and what the
-- paper says of it. Assumes nothing.
use Rattle.std.specs.Prelude.{true, false, List, [], ◌∷◌, ◌++◌, map, ℕ, pos, neg_ℤ, replicate}
use Rattle.std.specs.Prelude.{None}
use Prim.Native.String.{String}
use Rattle.pool.specs.Text.{text}
use Rattle.building.specs.Builder.{push_opcode, push_verify}
use Rattle.building.specs.Lent.{Outcome, calls}
use Rattle.marked.specs.Rows.{Row, plain, minimal, size_at, kind, dust, asm, serialized, strict, loose, accurate, legacy, screen, built, then}

abbrev pub W1 : List ℕ
W1 = []

abbrev pub W2 : List ℕ
W2 = 0x01 ∷ []

abbrev pub W3 : List ℕ
W3 = 0x01 ∷ 0x05 ∷ []

abbrev pub W4 : List ℕ
W4 = 0x01 ∷ 0x00 ∷ []

abbrev pub W5 : List ℕ
W5 = 0x4c ∷ 0x05 ∷ []

abbrev pub W6 : List ℕ
W6 = 0x51 ∷ 0x4c ∷ []

abbrev pub W7 : List ℕ
W7 = 0x4d ∷ 0x00 ∷ 0x01 ∷ replicate 256 0x07

abbrev pub W9 : List ℕ
W9 = 0x80 ∷ []

abbrev pub W10 : List ℕ
W10 = 0x52 ∷ 0xae ∷ 0xae ∷ []

abbrev pub W11 : List ℕ
W11 = 0x52 ∷ 0xac ∷ 0xae ∷ []

-- opcode 0x87 in a buffer of one byte, verify, and verify again with room for one more
abbrev pub W12-equal : Outcome
W12-equal = calls (push_opcode 0x87) 0 None (0x00 ∷ [])

abbrev pub W12-verify : Outcome
W12-verify = then W12-equal push_verify []

abbrev pub W12-again : Outcome
W12-again = then W12-verify push_verify (0x00 ∷ [])

abbrev pub P2A : List ℕ
P2A = 0x51 ∷ 0x02 ∷ 0x4e ∷ 0x73 ∷ []

-- 'Every line, the last included, ends in a newline'
abbrev pub lines : List String → List ℕ
lines [] = []
lines (l ∷ ls) = text l ++ (10 ∷ lines ls)

abbrev pub P2A-output : List ℕ
P2A-output = lines ("length 4" ∷ "kind p2a" ∷ "sigops 0 0" ∷ "dust 240" ∷ "asm OP_PUSHNUM_1 OP_PUSHBYTES_2 4e73" ∷ [])

abbrev pub examples : List (Row × Row)
examples =
    -- W1 empty script: End,
    (plain W1 0, ("end", [])) ∷
    (minimal W1 0, ("end", [])) ∷
    -- kind other,
    (kind W1, ("other", [])) ∷
    -- dust 471
    (dust W1, ("amount", 471 ∷ [])) ∷
    -- W2 `01`: 15 at 0, 1 missing, both modes
    (plain W2 0, ("refusal", 15 ∷ 0 ∷ 1 ∷ [])) ∷
    (minimal W2 0, ("refusal", 15 ∷ 0 ∷ 1 ∷ [])) ∷
    -- W3 `01 05`: plain push,
    (plain W3 0, ("push", 0 ∷ 0 ∷ 1 ∷ 1 ∷ [])) ∷
    -- minimal 2 at 0
    (minimal W3 0, ("refusal", 2 ∷ 0 ∷ [])) ∷
    -- W4 `01 00`: push in both
    (plain W4 0, ("push", 0 ∷ 0 ∷ 1 ∷ 1 ∷ [])) ∷
    (minimal W4 0, ("push", 0 ∷ 0 ∷ 1 ∷ 1 ∷ [])) ∷
    -- W5 `4c 05`: plain 15, 5 missing, minimal 2, at 0
    (plain W5 0, ("refusal", 15 ∷ 0 ∷ 5 ∷ [])) ∷
    (minimal W5 0, ("refusal", 2 ∷ 0 ∷ [])) ∷
    -- W6 `51 4c`: opcode, then 14 at 1, 1 missing
    (plain W6 0, ("opcode", 0 ∷ 0x51 ∷ [])) ∷
    (plain W6 1, ("refusal", 14 ∷ 1 ∷ 1 ∷ [])) ∷
    (minimal W6 0, ("opcode", 0 ∷ 0x51 ∷ [])) ∷
    (minimal W6 1, ("refusal", 14 ∷ 1 ∷ 1 ∷ [])) ∷
    -- text `OP_PUSHNUM_1<unexpected end>`
    (asm W6, ("bytes", text "OP_PUSHNUM_1<unexpected end>")) ∷
    -- W7 `4d 00 01` and 256 bytes: one push
    (plain W7 0, ("push", 0 ∷ 2 ∷ 3 ∷ 256 ∷ [])) ∷
    (plain W7 1, ("end", [])) ∷
    (minimal W7 0, ("push", 0 ∷ 2 ∷ 3 ∷ 256 ∷ [])) ∷
    (minimal W7 1, ("end", [])) ∷
    -- of size 259, both modes
    (size_at false W7, ("size", 259 ∷ [])) ∷
    (size_at true W7, ("size", 259 ∷ [])) ∷
    -- W8 writes: 127 `7f`, 128 `80 00`, -255 `ff 80`, 2147483647 `ff ff ff 7f`
    (serialized (pos 127), ("bytes", 0x7f ∷ [])) ∷
    (serialized (pos 128), ("bytes", 0x80 ∷ 0x00 ∷ [])) ∷
    (serialized (neg_ℤ (pos 255)), ("bytes", 0xff ∷ 0x80 ∷ [])) ∷
    (serialized (pos 2147483647), ("bytes", 0xff ∷ 0xff ∷ 0xff ∷ 0x7f ∷ [])) ∷
    -- W9 `80`: strict 5, loose 0
    (strict W9, ("refusal", 5 ∷ [])) ∷
    (loose W9, ("number", 0 ∷ [])) ∷
    -- W10 `52 ae ae`: accurate 22, other 40
    (accurate W10, ("amount", 22 ∷ [])) ∷
    (legacy W10, ("amount", 40 ∷ [])) ∷
    -- W11 `52 ac ae`: 21, other 21
    (accurate W11, ("amount", 21 ∷ [])) ∷
    (legacy W11, ("amount", 21 ∷ [])) ∷
    -- W12 builder `87` in one byte, verify: `88`
    (built W12-equal, ("bytes", 0x87 ∷ [])) ∷
    (built W12-verify, ("bytes", 0x88 ∷ [])) ∷
    -- then again with room for one more: `88 69`
    (built W12-again, ("bytes", 0x88 ∷ 0x69 ∷ [])) ∷
    -- The inspector: for `51 02 4e 73` its whole output
    (screen P2A, ("bytes", P2A-output)) ∷ []

abbrev pub computed : List Row
computed = map (λ line. line.0) examples

abbrev pub paper : List Row
paper = map (λ line. line.1) examples
