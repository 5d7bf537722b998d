-- Calls one after the other: a cursor from position 0, each call given the cursor that the one before gave back. Assumes nothing.
use Rattle.std.specs.Prelude.{◌≡◌, Bool, List, [], ◌∷◌, ◌++◌, ℕ, zero, suc, ◌<◌, take, drop}
use Rattle.laws.specs.Said.{Said, answers, refuses}
use Rattle.script.specs.Walk.{Item, Walked, end, found, walk_says, next_at}
use Rattle.script.specs.Walk as walk
use Rattle.script.specs.Instruction.{Instruction, opcode, push, code_of, data_of}

-- the position after n calls
unfoldable pub position : Bool → List ℕ → ℕ → ℕ
position minimal s zero = 0
position minimal s (suc n) = next_at minimal s (position minimal s n)

-- what the call after n others says
abbrev pub call : Bool → List ℕ → ℕ → Said Walked
call minimal s n = walk_says minimal s (position minimal s n)

-- an instruction of the walk, its body as the script's own bytes
abbrev pub instruction_of : List ℕ → Item → Instruction
instruction_of s (walk.opcode place code) = opcode code
instruction_of s (walk.push place form body len) = push form (take len (drop body s))

-- what an answer hands out
abbrev pub given : List ℕ → Said Walked → List Instruction
given s (answers end) = []
given s (answers (found i)) = instruction_of s i ∷ []
given s (refuses number values) = []

-- the instructions that the first n calls hand out
unfoldable pub handed : Bool → List ℕ → ℕ → List Instruction
handed minimal s zero = []
handed minimal s (suc n) = handed minimal s n ++ given s (call minimal s n)

-- a call that hands out an instruction or says end
abbrev pub Taken : Said Walked → Type 0
Taken (answers w) = Unit {0}
Taken (refuses number values) = ⊥

-- none of the first n calls is refused
abbrev pub NoRefusal : Bool → List ℕ → ℕ → Type 0
NoRefusal minimal s n = (i : ℕ) → i < n → Taken (call minimal s i)

-- the call at a position hands out an instruction with this opcode and this data, and its cursor then stands at pc
pub record HandsOut (minimal : Bool) (s : List ℕ) (at code : ℕ) (vch : List ℕ) (pc : ℕ) : Type 0 where
  pub i : Instruction
  pub hands : given s (walk_says minimal s at) ≡ i ∷ []
  pub code_is : code_of i ≡ code
  pub data_is : data_of i ≡ vch
  pub next : next_at minimal s at ≡ pc
