-- Calls, computed: from a fresh cursor an opcode, a whole push, a push whose length byte is missing, the end; and scripts that are cut. Assumes nothing.
use mathlib.Core.Path.{◌≡◌, refl}
use mathlib.Core.Bool.{true, false}
use mathlib.Core.List.{List, [], ◌∷◌}
use Prim.Native.Nat.{ℕ}
use Rattle.laws.specs.Said.{answers, refuses}
use Rattle.opcodes.specs.Opcode.{direct}
use Rattle.script.specs.Script.{read_le, assign, sized, operand, get_script_op, assign_lacks, sized_lacks, operand_lacks, lacks}
use Rattle.script.specs.Walk.{end, found, opcode, push, not_minimal, says_less, cut_not_minimal, walk_says, next_at}
use Rattle.script.specs.Calls.{position, call}

-- 52 01 aa 4c
abbrev script : List ℕ
script = 0x52 ∷ 0x01 ∷ 0xaa ∷ 0x4c ∷ []

pub four_calls : (call false script 0 ∷ call false script 1 ∷ call false script 2 ∷ call false script 3 ∷ [])
    ≡ (answers (found (opcode 0 0x52)) ∷ answers (found (push 1 direct 2 1)) ∷ refuses 14 (3 ∷ 1 ∷ []) ∷ answers end ∷ [])
unfolding position next_at walk_says not_minimal get_script_op operand sized assign read_le lacks operand_lacks sized_lacks
four_calls = refl

-- 4d 01; 4e; 4b; 4e 05 00 00 00 aa; 4e ff ff ff ff
pub what_lacks :
    (walk_says false (0x4d ∷ 0x01 ∷ []) 0
    ∷ walk_says false (0x4e ∷ []) 0
    ∷ walk_says false (0x4b ∷ []) 0
    ∷ walk_says false (0x4e ∷ 0x05 ∷ 0x00 ∷ 0x00 ∷ 0x00 ∷ 0xaa ∷ []) 0
    ∷ walk_says false (0x4e ∷ 0xff ∷ 0xff ∷ 0xff ∷ 0xff ∷ []) 0
    ∷ [])
    ≡ (refuses 14 (0 ∷ 1 ∷ [])
    ∷ refuses 14 (0 ∷ 4 ∷ [])
    ∷ refuses 15 (0 ∷ 75 ∷ [])
    ∷ refuses 15 (0 ∷ 4 ∷ [])
    ∷ refuses 15 (0 ∷ 4_294_967_295 ∷ [])
    ∷ [])
unfolding walk_says not_minimal get_script_op operand sized assign read_le lacks operand_lacks sized_lacks assign_lacks
what_lacks = refl

-- minimal mode: 2 comes before a cut body, 4c 05, and not before a cut length, 4d 01
pub which_first : (walk_says true (0x4c ∷ 0x05 ∷ []) 0 ∷ walk_says true (0x4d ∷ 0x01 ∷ []) 0 ∷ []) ≡ (refuses 2 (0 ∷ []) ∷ refuses 14 (0 ∷ 1 ∷ []) ∷ [])
unfolding walk_says not_minimal get_script_op operand sized assign read_le lacks operand_lacks sized_lacks assign_lacks cut_not_minimal says_less
which_first = refl
