-- Bytes laid behind the used ones of a buffer. Assumes nothing.
use Rattle.std.specs.Prelude.{List, ◌∷◌, ◌++◌, ℕ, ◌+◌, length}
use Rattle.laws.specs.Said.{Said, answers, unless}
use Rattle.opcodes.specs.Opcode.{PushForm, length_bytes}
use Rattle.script.specs.Instruction.{write_le}
use Rattle.building.specs.Lent.{built_says}

-- an opcode byte, the length bytes of a form, and the body
abbrev pub headed : ℕ → PushForm → List ℕ → List ℕ
headed code form body = code ∷ (write_le (length_bytes form) (length body) ++ body)

-- how many bytes there are with these behind the used ones, or the refusals of a built script
abbrev pub laid_says : (used : ℕ) (new : List ℕ) (room : ℕ) → Said ℕ
laid_says used new room = unless (built_says (used + length new) room) (answers (used + length new))
