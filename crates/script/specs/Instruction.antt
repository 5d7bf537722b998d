-- Instructions and their bytes, from document 01, 'The walk'. Assumes nothing.
use Rattle.std.specs.Prelude.{◌≡◌, Bool, true, false, not, ◌&&◌, ◌||◌, List, [], ◌∷◌, ◌++◌, ℕ, zero, suc, ◌+◌, ◌/◌, ◌%◌, ◌≤◌, ◌<◌, ltb, leb, eqb, length, get_or, take, drop}
pub use Rattle.laws.specs.Bytes.{Bytes}
use Rattle.opcodes.specs.Opcode.{PushForm, direct, pushdata1, pushdata2, pushdata4, length_bytes}

-- 'An instruction is an opcode byte above 78, or a push form with a body'
pub data Instruction : Type 0 where
  opcode : ℕ → Instruction
  push : PushForm → List ℕ → Instruction

-- '.. whose length that form can state (direct: 0 to 75; else what 1, 2 or 4 length bytes hold)'
abbrev pub most_stated : PushForm → ℕ
most_stated direct = 75
most_stated pushdata1 = 0xff
most_stated pushdata2 = 0xffff
most_stated pushdata4 = 0xffff_ffff

-- an opcode byte above 78, or a body of bytes that its form can state
abbrev pub Stands : Instruction → Type 0
Stands (opcode code) = (78 < code) × (code < 256)
Stands (push form body) = (length body ≤ most_stated form) × Bytes body

-- the opcode byte of a push: 0 to 75 is the length itself
abbrev pub opcode_of : PushForm → ℕ → ℕ
opcode_of direct len = len
opcode_of pushdata1 len = 0x4c
opcode_of pushdata2 len = 0x4d
opcode_of pushdata4 len = 0x4e

-- a number in k bytes, the lowest first
unfoldable pub write_le : ℕ → ℕ → List ℕ
write_le zero n = []
write_le (suc k) n = n % 256 ∷ write_le k (n / 256)

-- the bytes of an instruction: the opcode, the length bytes, the body
unfoldable pub encode : Instruction → List ℕ
encode (opcode code) = code ∷ []
encode (push form body) = opcode_of form (length body) ∷ (write_le (length_bytes form) (length body) ++ body)

-- the bytes of a list of instructions, one after the other
unfoldable pub encode_all : List Instruction → List ℕ
encode_all [] = []
encode_all (i ∷ is) = encode i ++ encode_all is

-- 'Size: 1 for an opcode; 1 plus length bytes plus body for a push'
abbrev pub size : Instruction → ℕ
size (opcode code) = 1
size (push form body) = 1 + length_bytes form + length body

-- the sizes of a list, added up
unfoldable pub sizes : List Instruction → ℕ
sizes [] = 0
sizes (i ∷ is) = size i + sizes is

-- 'Minimal mode refuses': a one-byte direct push of 0x81 or 1 to 16; OP_PUSHDATA1, 2, 4 that say less than 76, 0x100, 0x10000
abbrev pub wasteful : Instruction → Bool
wasteful (opcode code) = false
wasteful (push direct body) =
    eqb (length body) 1 && (eqb (get_or body 0 0) 0x81 || (leb 1 (get_or body 0 0) && leb (get_or body 0 0) 16))
wasteful (push pushdata1 body) = ltb (length body) 76
wasteful (push pushdata2 body) = ltb (length body) 0x100
wasteful (push pushdata4 body) = ltb (length body) 0x10000

-- what a mode takes
abbrev pub allowed : Bool → Instruction → Bool
allowed minimal i = not (minimal && wasteful i)

-- GetScriptOp's opcodeRet and *pvchRet for an instruction
abbrev pub code_of : Instruction → ℕ
code_of (opcode code) = code
code_of (push form body) = opcode_of form (length body)

abbrev pub data_of : Instruction → List ℕ
data_of (opcode code) = []
data_of (push form body) = body

-- an instruction that a mode takes, and whose bytes stand whole at a position of a script
pub record StandsAt (minimal : Bool) (s : List ℕ) (at : ℕ) (i : Instruction) : Type 0 where
  pub stands : Stands i
  pub taken : allowed minimal i ≡ true
  pub bytes : take (length (encode i)) (drop at s) ≡ encode i

-- each instruction of a list
abbrev pub Each : (Instruction → Type 0) → List Instruction → Type 0
Each P [] = Unit {0}
Each P (i ∷ is) = P i × Each P is
