-- CScript::IsPushOnly of Core's script/script.cpp. No contract cites it: `push_only_core` puts document 01's words beside it. Assumes nothing.
use Rattle.std.specs.Prelude.{Bool, true, false, List, ℕ, zero, suc, ltb, length}
use Rattle.std.specs.Prelude.{if◌then◌else◌}
use Rattle.opcodes.specs.Core.{OP_16}
use Rattle.script.specs.Script.{ScriptOp, fails, reads, get_script_op}

-- if (!GetOp(pc, opcode)) return false; if (opcode > OP_16) return false;
abbrev pub push_turn : ScriptOp → (again : ℕ → Bool) → Bool
push_turn fails again = false
push_turn (reads opcode vch pc) again = if ltb OP_16 opcode then false else again pc

-- while (pc < end()), for so many turns
unfoldable pub while_push : (turns : ℕ) (s : List ℕ) (pc : ℕ) → Bool
while_push zero s pc = true
while_push (suc turns) s pc = if ltb pc (length s) then push_turn (get_script_op s pc) (while_push turns s) else true

-- IsPushOnly; each turn reads a byte at least, so the script's length is turns enough
unfoldable pub core_is_push_only : List ℕ → Bool
core_is_push_only s = while_push (length s) s 0
