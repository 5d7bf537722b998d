-- The walk of document 01, from Core's two functions. Assumes nothing.
use Rattle.std.specs.Prelude.{Bool, false, not, ◌&&◌, ◌||◌, List, [], ◌∷◌, ℕ, ◌+◌, ltb, leb, eqb, length, get_or}
use Rattle.std.specs.Prelude.{if◌then◌else◌}
use Rattle.laws.specs.Said.{Said, answers, refuses, unless}
use Rattle.refusal.specs.Refusal.{within_limit}
use Rattle.opcodes.specs.Opcode.{PushForm, direct, pushdata1, pushdata2, pushdata4, length_bytes, Sort, sort_of}
use Rattle.opcodes.specs.Opcode as sort
use Rattle.script.specs.Script.{ScriptOp, fails, reads, read_le, get_script_op, Lack, of_length, of_body, lacks, check_minimal_push}
use Rattle.opcodes.specs.Core.{OP_PUSHDATA4}

-- 'The walk': an opcode with its place; a push with place, form, body place and body length
pub data Item : Type 0 where
  opcode : (place code : ℕ) → Item
  push : (place : ℕ) (form : PushForm) (body len : ℕ) → Item

-- .. or the end
pub data Walked : Type 0 where
  end : Walked
  found : Item → Walked

-- what GetScriptOp has read at a place: a push's body follows its opcode and length bytes
abbrev pub walked : Sort → ℕ → ℕ → ℕ → Item
walked (sort.push form) place code len = push place form (place + 1 + length_bytes form) len
walked sort.number place code len = opcode place code
walked sort.plain place code len = opcode place code

-- the interpreter asks CheckMinimalPush of a whole push
unfoldable pub not_minimal : ℕ → List ℕ → Bool
not_minimal code vch = leb code OP_PUSHDATA4 && not (check_minimal_push vch code)

-- the k length bytes are all there and say less than this
unfoldable pub says_less : ℕ → ℕ → List ℕ → ℕ → Bool
says_less k least s place = leb (place + 1 + k) (length s) && ltb (read_le k s (place + 1)) least

-- document 01: 'less than 76, 0x100, 0x10000'
abbrev pub cut_form : Sort → List ℕ → ℕ → Bool
cut_form (sort.push direct) s place = false
cut_form (sort.push pushdata1) s place = says_less 1 76 s place
cut_form (sort.push pushdata2) s place = says_less 2 0x100 s place
cut_form (sort.push pushdata4) s place = says_less 4 0x10000 s place
cut_form sort.number s place = false
cut_form sort.plain s place = false

-- difference (g): Core never judges a cut push; here one whose length bytes say too little is not minimal
unfoldable pub cut_not_minimal : List ℕ → ℕ → Bool
cut_not_minimal s place = cut_form (sort_of (get_or s place 0)) s place

-- 'Say what was cut': 14 when the length bytes are short, 15 when the body is; the place, and how many bytes are missing
abbrev pub cut : ℕ → Lack → Said Walked
cut place (of_length missing) = refuses 14 (place ∷ missing ∷ [])
cut place (of_body missing) = refuses 15 (place ∷ missing ∷ [])

-- refusal 2, 14 or 15 with the place where the push starts, or the instruction
abbrev pub judged : Bool → List ℕ → ℕ → ScriptOp → Said Walked
judged minimal s place fails = if minimal && cut_not_minimal s place then refuses 2 (place ∷ []) else cut place (lacks s place)
judged minimal s place (reads code vch pc) =
    if minimal && not_minimal code vch then refuses 2 (place ∷ []) else answers (found (walked (sort_of code) place code (length vch)))

-- what a call says at a place: refusals 1 and 8 first
unfoldable pub walk_says : Bool → List ℕ → ℕ → Said Walked
walk_says minimal s at =
    within_limit s
    (if ltb (length s) at then refuses 8 []
    else if eqb (length s) at then answers end
    else judged minimal s at (get_script_op s at))

-- where an instruction starts
abbrev pub place_of : Item → ℕ
place_of (opcode place code) = place
place_of (push place form body len) = place

-- 'Size': 1 for an opcode; 1 plus length bytes plus body for a push
abbrev pub size_of : Item → ℕ
size_of (opcode place code) = 1
size_of (push place form body len) = 1 + length_bytes form + len

-- .. and 0 where nothing stands: at the end, and where a call refuses
abbrev pub size_said : Said Walked → ℕ
size_said (answers end) = 0
size_said (answers (found i)) = size_of i
size_said (refuses number values) = 0

-- what is said of the size at a place: the call's refusal, or the size
unfoldable pub size_says : Bool → List ℕ → ℕ → Said ℕ
size_says minimal s at = unless (walk_says minimal s at) (answers (size_said (walk_says minimal s at)))

-- the refusals after which the cursor stands at the script's end
abbrev pub to_end : ℕ → Bool
to_end number = eqb number 2 || (eqb number 14 || eqb number 15)

-- the cursor after a call: past the instruction; after 2, 14 and 15 at the script's end; else unchanged
abbrev pub moved : Said Walked → List ℕ → ℕ → ℕ
moved (answers end) s at = at
moved (answers (found i)) s at = at + size_of i
moved (refuses number values) s at = if to_end number then length s else at

-- .. after the call at a place
unfoldable pub next_at : Bool → List ℕ → ℕ → ℕ
next_at minimal s at = moved (walk_says minimal s at) s at
