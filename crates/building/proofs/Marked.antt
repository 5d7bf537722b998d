-- Document 01's W12 and its `05`, and that what was remembered wins over what a walk would say, computed from the definitions. Assumes nothing.
use mathlib.Core.Path.{◌≡◌, refl}
use mathlib.Core.List.{List, [], ◌∷◌}
use Rattle.std.specs.Prelude.{Option, None, Some}
use Prim.Native.Nat.{ℕ}
use lib.IntN.{pos}
use Rattle.laws.specs.Said.{answers, refuses}
use Rattle.script.specs.Script.{read_le, assign, sized, operand, get_script_op}
use Rattle.script.specs.Walk.{walk_says, next_at, not_minimal}
use Rattle.script.specs.Run.{walk_for, walk_from}
use Rattle.script.specs.Instruction.{write_le, encode}
use Rattle.building.specs.Builder.{Call, push_opcode, push_slice, push_int, push_verify, last_if_opcode, takes_over}
use Rattle.building.specs.Lent.{Outcome, builder_says, built_says, calls}

-- a call after another
abbrev then : Outcome → Call → Outcome
then o call = calls call o.used o.remembered o.buffer

abbrev done : ℕ → Option ℕ → List ℕ → Outcome
done used remembered buffer = record { said = answers tt; used = used; remembered = remembered; buffer = buffer }

pub marked :
    (calls push_verify 1 (Some 0x87) (0x87 ∷ []) ≡ done 1 (Some 0x88) (0x88 ∷ [])) ×
    (calls push_verify 1 (Some 0x88) (0x88 ∷ 0 ∷ []) ≡ done 2 (Some 0x69) (0x88 ∷ 0x69 ∷ [])) ×
    (calls push_verify 1 (Some 0x88) (0x88 ∷ []) ≡ record { said = refuses 7 (2 ∷ []); used = 1; remembered = Some 0x88; buffer = 0x88 ∷ [] }) ×
    (then (then (calls (push_opcode 0x01) 0 None (0 ∷ 0 ∷ [])) (push_opcode 0x87)) push_verify ≡ done 2 (Some 0x88) (0x01 ∷ 0x88 ∷ [])) ×
    (calls (push_slice (0x05 ∷ [])) 0 None (0 ∷ 0 ∷ []) ≡ done 2 None (0x01 ∷ 0x05 ∷ [])) ×
    (calls (push_int (pos 5)) 0 None (0 ∷ 0 ∷ []) ≡ done 1 (Some 0x55) (0x55 ∷ 0 ∷ [])) ×
    (calls takes_over 1 None (0x87 ∷ []) ≡ done 1 (Some 0x87) (0x87 ∷ [])) ×
    (calls takes_over 1 None (0x00 ∷ []) ≡ done 1 None (0x00 ∷ []))
unfolding calls builder_says built_says push_slice push_int push_verify last_if_opcode walk_from walk_for walk_says next_at not_minimal get_script_op operand sized assign read_le encode write_le
marked = (refl, refl, refl, refl, refl, refl, refl, refl)
