-- What the code's answers say. Assumes nothing.
use Rattle.std.specs.Prelude.{Bool, true, false, Result, Ok, Err, Option, None, Some}
use Rattle.laws.specs.Said.{Said, answers}
use Rattle.refusal.specs.Refusal.{said_refusal}
use Rattle.opcodes.specs.Opcode.{said_form}
use Rattle.script.specs.Walk.{Walked, end, found, opcode, push}
use Rattle.walk.specs.declared.Mode.{Mode}
use Rattle.walk.specs.declared.Mode.TheVariants.{Plain, Minimal}
use Rattle.refusal.specs.declared.Refusal.{Refusal}
use Rattle.walk.specs.declared.Instruction.{Instruction}
use Rattle.walk.specs.declared.Instruction.TheVariants.{Opcode, Push}

abbrev pub is_minimal : Mode → Bool
is_minimal Plain = false
is_minimal Minimal = true

abbrev pub said_found : Result (Option Instruction) Refusal → Said Walked
said_found (Ok None) = answers end
said_found (Ok (Some (Opcode place code))) = answers (found (opcode place code))
said_found (Ok (Some (Push place form body len))) = answers (found (push place (said_form form) body len))
said_found (Err r) = said_refusal r
