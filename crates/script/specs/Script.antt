-- How Bitcoin Core 25.0 reads a script: GetScriptOp and CheckMinimalPush of script/script.cpp. Assumes nothing.
use Rattle.std.specs.Prelude.{Bool, true, false, ◌&&◌, List, [], ℕ, zero, suc, ◌+◌, ◌-◌, ◌*◌, ltb, leb, eqb, length, get_or, take, drop}
use Rattle.std.specs.Prelude.{if◌then◌else◌}
use Rattle.opcodes.specs.Core.{OP_0, OP_PUSHDATA1, OP_PUSHDATA2, OP_PUSHDATA4}

-- what GetScriptOp gives: false, or true with opcodeRet, *pvchRet and the new pc
pub data ScriptOp : Type 0 where
  fails : ScriptOp
  reads : (opcodeRet : ℕ) (vchRet : List ℕ) (pc : ℕ) → ScriptOp

-- ReadLE16, ReadLE32, and *pc for one byte: the number that the k bytes at pc hold, the lowest first
unfoldable pub read_le : ℕ → List ℕ → ℕ → ℕ
read_le zero s pc = 0
read_le (suc k) s pc = get_or s pc 0 + 256 * read_le k s (suc pc)

-- if (end - pc < nSize) return false; pvchRet->assign(pc, pc + nSize); pc += nSize;
unfoldable pub assign : ℕ → ℕ → List ℕ → ℕ → ScriptOp
assign opcode nSize s pc = if ltb (length s - pc) nSize then fails else reads opcode (take nSize (drop pc s)) (pc + nSize)

-- if (end - pc < k) return false; nSize = ReadLE(pc); pc += k;
unfoldable pub sized : ℕ → ℕ → List ℕ → ℕ → ScriptOp
sized k opcode s pc = if ltb (length s - pc) k then fails else assign opcode (read_le k s pc) s (pc + k)

-- the immediate operand
unfoldable pub operand : ℕ → List ℕ → ℕ → ScriptOp
operand opcode s pc =
    if leb opcode OP_PUSHDATA4 then
    (if ltb opcode OP_PUSHDATA1 then assign opcode opcode s pc
    else if eqb opcode OP_PUSHDATA1 then sized 1 opcode s pc
    else if eqb opcode OP_PUSHDATA2 then sized 2 opcode s pc
    else if eqb opcode OP_PUSHDATA4 then sized 4 opcode s pc
    else assign opcode 0 s pc)
    else reads opcode [] pc

-- GetScriptOp
unfoldable pub get_script_op : List ℕ → ℕ → ScriptOp
get_script_op s pc = if leb (length s) pc then fails else operand (get_or s pc 0) s (pc + 1)

-- what a read that fails lacks: bytes of the length, or bytes of the body
pub data Lack : Type 0 where
  of_length : (missing : ℕ) → Lack
  of_body : (missing : ℕ) → Lack

-- how many
abbrev pub bytes_lacking : Lack → ℕ
bytes_lacking (of_length missing) = missing
bytes_lacking (of_body missing) = missing

-- if (end - pc < nSize) return false;
unfoldable pub assign_lacks : ℕ → List ℕ → ℕ → Lack
assign_lacks nSize s pc = of_body (nSize - (length s - pc))

-- if (end - pc < k) return false; nSize = ReadLE(pc); pc += k;
unfoldable pub sized_lacks : ℕ → List ℕ → ℕ → Lack
sized_lacks k s pc = if ltb (length s - pc) k then of_length (k - (length s - pc)) else assign_lacks (read_le k s pc) s (pc + k)

-- the immediate operand
unfoldable pub operand_lacks : ℕ → List ℕ → ℕ → Lack
operand_lacks opcode s pc =
    if leb opcode OP_PUSHDATA4 then
    (if ltb opcode OP_PUSHDATA1 then assign_lacks opcode s pc
    else if eqb opcode OP_PUSHDATA1 then sized_lacks 1 s pc
    else if eqb opcode OP_PUSHDATA2 then sized_lacks 2 s pc
    else if eqb opcode OP_PUSHDATA4 then sized_lacks 4 s pc
    else assign_lacks 0 s pc)
    else of_body 0

-- what GetScriptOp lacks where it returns false behind an opcode
unfoldable pub lacks : List ℕ → ℕ → Lack
lacks s pc = operand_lacks (get_or s pc 0) s (pc + 1)

-- CheckMinimalPush
unfoldable pub check_minimal_push : List ℕ → ℕ → Bool
check_minimal_push vch opcode =
    if eqb (length vch) 0 then eqb opcode OP_0
    else if eqb (length vch) 1 && (leb 1 (get_or vch 0 0) && leb (get_or vch 0 0) 16) then false
    else if eqb (length vch) 1 && eqb (get_or vch 0 0) 0x81 then false
    else if leb (length vch) 75 then eqb opcode (length vch)
    else if leb (length vch) 255 then eqb opcode OP_PUSHDATA1
    else if leb (length vch) 65535 then eqb opcode OP_PUSHDATA2
    else true
