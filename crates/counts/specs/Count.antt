-- How Bitcoin Core 25.0 counts signature operations: CScript::GetSigOpCount of script/script.cpp. Assumes nothing.
use Rattle.std.specs.Prelude.{Bool, ◌&&◌, ◌||◌, List, ℕ, zero, suc, ◌+◌, ltb, leb, eqb, length}
use Rattle.std.specs.Prelude.{if◌then◌else◌}
use Rattle.laws.specs.Said.{Said, answers}
use Rattle.refusal.specs.Refusal.{within_limit}
use Rattle.opcodes.specs.Core.{
  OP_1,
  OP_16,
  OP_CHECKSIG,
  OP_CHECKSIGVERIFY,
  OP_CHECKMULTISIG,
  OP_CHECKMULTISIGVERIFY,
  OP_INVALIDOPCODE,
  decode_op_n,
}
use Rattle.script.specs.Script.{ScriptOp, fails, reads, get_script_op}

-- Core's script/script.h
abbrev pub MAX_PUBKEYS_PER_MULTISIG : ℕ
MAX_PUBKEYS_PER_MULTISIG = 20

-- if (fAccurate && lastOpcode >= OP_1 && lastOpcode <= OP_16) n += DecodeOP_N(lastOpcode); else n += MAX_PUBKEYS_PER_MULTISIG;
unfoldable pub multisig_ops : (fAccurate : Bool) (lastOpcode : ℕ) → ℕ
multisig_ops fAccurate lastOpcode =
    if fAccurate && (leb OP_1 lastOpcode && leb lastOpcode OP_16) then decode_op_n lastOpcode else MAX_PUBKEYS_PER_MULTISIG

-- what the opcode that was read adds to n
unfoldable pub sig_ops : (fAccurate : Bool) (lastOpcode opcode : ℕ) → ℕ
sig_ops fAccurate lastOpcode opcode =
    if eqb opcode OP_CHECKSIG || eqb opcode OP_CHECKSIGVERIFY then 1
    else if eqb opcode OP_CHECKMULTISIG || eqb opcode OP_CHECKMULTISIGVERIFY then multisig_ops fAccurate lastOpcode
    else 0

-- if (!GetOp(pc, opcode)) break; n += ..; lastOpcode = opcode;
abbrev pub turn : (fAccurate : Bool) (n lastOpcode : ℕ) → ScriptOp → (again : (pc n lastOpcode : ℕ) → ℕ) → ℕ
turn fAccurate n lastOpcode fails again = n
turn fAccurate n lastOpcode (reads opcode vch pc) again = again pc (n + sig_ops fAccurate lastOpcode opcode) opcode

-- while (pc < end()), for so many turns
unfoldable pub while : (turns : ℕ) (fAccurate : Bool) (s : List ℕ) (pc n lastOpcode : ℕ) → ℕ
while zero fAccurate s pc n lastOpcode = n
while (suc turns) fAccurate s pc n lastOpcode =
    if ltb pc (length s) then turn fAccurate n lastOpcode (get_script_op s pc) (while turns fAccurate s) else n

-- GetSigOpCount; each turn reads a byte at least, so as many turns as the script has bytes are enough
unfoldable pub get_sig_op_count : Bool → List ℕ → ℕ
get_sig_op_count fAccurate s = while (length s) fAccurate s 0 0 OP_INVALIDOPCODE

-- document 01, 'Counts and dust': refusal 1, else the count
unfoldable pub count_says : Bool → List ℕ → Said ℕ
count_says fAccurate s = within_limit s (answers (get_sig_op_count fAccurate s))
