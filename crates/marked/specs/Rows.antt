-- What a definition says, as one row of a table: a word, and the numbers that stand beside it in document 01. Assumes nothing.
use Rattle.std.specs.Prelude.{Bool, true, false, List, [], ◌∷◌, ◌++◌, ℕ, suc, ℤ, pos, negsuc, take}
use Prim.Native.String.{String}
use Rattle.laws.specs.Said.{Said, answers, refuses}
use Rattle.opcodes.specs.Opcode.{length_bytes}
use Rattle.script.specs.Walk.{Walked, end, found, opcode, push, size_of}
use Rattle.script.specs.Calls.{call}
use Rattle.numbers.specs.ScriptNum.{serialize, script_num, n_default_max_num_size}
use Rattle.counts.specs.Count.{count_says}
use Rattle.dust.specs.Dust.{dust_says}
use Rattle.templates.specs.Kind.{kind_of}
use Rattle.asm.specs.Asm.{text_of}
use Rattle.screen.specs.Screen.{kind_name, screen_of}
use Rattle.building.specs.Builder.{Call}
use Rattle.building.specs.Lent.{Outcome, calls}

abbrev pub Row : Type 0
Row = String × List ℕ

-- a refusal by its number and its values, else the answer's row
abbrev pub said_row : {A : Type 0} → (A → Row) → Said A → Row
said_row row (answers a) = row a
said_row row (refuses number values) = ("refusal", number ∷ values)

-- 'The walk': a push with place, length bytes of its form, body place and body length
abbrev pub step_row : Walked → Row
step_row end = ("end", [])
step_row (found (opcode place code)) = ("opcode", place ∷ code ∷ [])
step_row (found (push place form body len)) = ("push", place ∷ length_bytes form ∷ body ∷ len ∷ [])

abbrev pub size_row : Walked → Row
size_row end = ("size", 0 ∷ [])
size_row (found i) = ("size", size_of i ∷ [])

abbrev pub amount_row : ℕ → Row
amount_row n = ("amount", n ∷ [])

-- `negsuc n` is -(n + 1)
abbrev pub number_row : ℤ → Row
number_row (pos n) = ("number", n ∷ [])
number_row (negsuc n) = ("minus", suc n ∷ [])

abbrev pub bytes_row : List ℕ → Row
bytes_row s = ("bytes", s)

-- the call after n others, each given the cursor that the one before gave back
abbrev pub plain : List ℕ → ℕ → Row
plain s n = said_row step_row (call false s n)

abbrev pub minimal : List ℕ → ℕ → Row
minimal s n = said_row step_row (call true s n)

-- the size of what the first call gives in a mode
abbrev pub size_at : Bool → List ℕ → Row
size_at mode s = said_row size_row (call mode s 0)

-- by the name that the inspector shows
abbrev pub kind : List ℕ → Row
kind s = (kind_name (kind_of s), [])

abbrev pub dust : List ℕ → Row
dust s = said_row amount_row (dust_says s)

abbrev pub asm : List ℕ → Row
asm s = bytes_row (text_of s)

-- the inspector's whole output
abbrev pub screen : List ℕ → Row
screen s = bytes_row (screen_of s)

abbrev pub serialized : ℤ → Row
serialized n = bytes_row (serialize n)

-- read_scriptint, and read_scriptint_non_minimal
abbrev pub strict : List ℕ → Row
strict s = said_row number_row (script_num n_default_max_num_size true s)

abbrev pub loose : List ℕ → Row
loose s = said_row number_row (script_num n_default_max_num_size false s)

abbrev pub accurate : List ℕ → Row
accurate s = said_row amount_row (count_says true s)

abbrev pub legacy : List ℕ → Row
legacy s = said_row amount_row (count_says false s)

-- the bytes that are used after a builder's call
abbrev pub built : Outcome → Row
built o = said_row (λ done. bytes_row (take o.used o.buffer)) o.said

-- a call after another, with more room behind the buffer
abbrev pub then : Outcome → Call → List ℕ → Outcome
then o call more = calls call o.used o.remembered (o.buffer ++ more)
