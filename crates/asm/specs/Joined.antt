-- The text of a script that is whole: its instructions' texts, joined by one space. Assumes nothing.
use Rattle.std.specs.Prelude.{List, [], ◌∷◌, ◌++◌, map, ℕ}
use Rattle.pool.specs.Text.{text}
use Rattle.script.specs.Walk.{Item}
use Rattle.script.specs.Instruction.{Instruction, code_of, data_of}
use Rattle.script.specs.Calls.{instruction_of}
use Rattle.asm.specs.Asm.{opcode_text, data_text}

-- the opcode's name; for a nonempty push, a space and lower-case hex
unfoldable pub instruction_text : Instruction → List ℕ
instruction_text i = opcode_text (code_of i) ++ data_text (data_of i)

-- the instructions that the walk hands out, their bodies as the script's own bytes
abbrev pub instructions : List ℕ → List Item → List Instruction
instructions s is = map (instruction_of s) is

-- a space and a text for each instruction
abbrev pub each_spaced : List Instruction → List ℕ
each_spaced [] = []
each_spaced (i ∷ is) = text " " ++ (instruction_text i ++ each_spaced is)

-- the texts, one space between two
abbrev pub joined : List Instruction → List ℕ
joined [] = []
joined (i ∷ is) = instruction_text i ++ each_spaced is
