-- The convention by which an answer goes over to C: a number, and values at the front of a lent slice. Assumes nothing.
use Rattle.std.specs.Prelude.{Bool, not, ◌||◌, List, [], ◌∷◌, ◌++◌, ℕ, ◌≤◌, ltb, eqb, ℤ, length, drop}
use Rattle.std.specs.Prelude.{Option, None, Some}
use Rattle.std.specs.Prelude.{if◌then◌else◌}
use Rattle.laws.specs.Said.{Said, answers, refuses}
use Rattle.opcodes.specs.Opcode.{Sort, length_bytes}
use Rattle.opcodes.specs.Opcode as sort
use Rattle.script.specs.Walk.{Walked, end, found, opcode, push}
use Rattle.walked.specs.Walked.{Stretch, stretch}
use Rattle.templates.specs.Kind.{Kind, p2pkh, p2sh, p2wpkh, p2wsh, p2tr, p2a, witness, p2pk, multisig, opreturn, other}
use Rattle.building.specs.Lent.{Outcome}

-- 'the answer is the refusal's number of document 01, 0 where there is none'
abbrev pub number_said : {A : Type 0} → Said A → ℕ
number_said (answers a) = 0
number_said (refuses n values) = n

-- '.. and the values go into lent slices': an answer's, or those that stand beside the refusal's number
abbrev pub values_said : {A : Type 0} → (A → List ℕ) → Said A → List ℕ
values_said row (answers a) = row a
values_said row (refuses n values) = values

-- what a call returns and leaves in the slice
pub data Handed (E : Type 0) : Type 0 where
  handed : (r : ℕ) (values : List E) → Handed E

-- what a call returns that is lent too short a slice for its answer: a mistake of the caller's, and no refusal. The refusals' numbers end at 15, and
-- document 02's at 26.
abbrev pub SHORT_VALUES : ℕ
SHORT_VALUES = 255

-- a slice with fewer entries than the call names is left as it was, whatever would be answered, and so is one with fewer than there are values, so that
-- none is dropped; else the values stand at its front. The calls of the boundary name numbers that their rows fit, so the second test never decides there.
abbrev pub into : {E : Type 0} (least number : ℕ) (row old : List E) → Handed E
into least number row old =
    if ltb (length old) least || ltb (length old) (length row) then handed SHORT_VALUES old else handed number (row ++ drop (length row) old)

-- so many entries are enough for what is said
abbrev pub Fits : {A : Type 0} (least : ℕ) (row : A → List ℕ) → Said A → Type 0
Fits least row said = length (values_said row said) ≤ least

-- .. and for a refusal, whatever an answer's row is
abbrev pub Brief : {A : Type 0} (least : ℕ) → Said A → Type 0
Brief least said = Fits least (λ a. []) said

-- a call that says this
unfoldable pub says : {A : Type 0} (least : ℕ) (row : A → List ℕ) (said : Said A) (old : List ℕ) → Handed ℕ
says least row said old = into least (number_said said) (values_said row said) old

-- a call that cannot be refused
unfoldable pub gives : (least : ℕ) (row old : List ℕ) → Handed ℕ
gives least row old = into least 0 row old

-- such a call leaves another slice that it is lent so: as it was, where the one for the values is too short
unfoldable pub unless_short : {A : Type 0} (least room : ℕ) (new old : A) → A
unless_short least room new old = if ltb room least then old else new

-- a count, a length, an amount
abbrev pub one : ℕ → List ℕ
one n = n ∷ []

-- 1 for yes
abbrev pub yes : Bool → List ℕ
yes b = (if b then 1 else 0) ∷ []

-- 1 and what there is, or 0 for nothing
abbrev pub maybe : {A : Type 0} → (A → List ℕ) → Option A → List ℕ
maybe row None = 0 ∷ []
maybe row (Some a) = 1 ∷ row a

-- place and length
abbrev pub two_of : Stretch → List ℕ
two_of (stretch start len) = start ∷ (len ∷ [])

-- a push and its length bytes, a number opcode, the rest
abbrev pub sort_row : Sort → List ℕ
sort_row (sort.push form) = 0 ∷ (length_bytes form ∷ [])
sort_row sort.number = 1 ∷ []
sort_row sort.plain = 2 ∷ []

-- end; an opcode; a push, its form as the number of length bytes
abbrev pub walked_row : Walked → List ℕ
walked_row end = 0 ∷ []
walked_row (found (opcode place code)) = 1 ∷ (place ∷ (code ∷ []))
walked_row (found (push place form body len)) = 2 ∷ (place ∷ (length_bytes form ∷ (body ∷ (len ∷ []))))

-- the eleven kinds in document 01's order, from 1
abbrev pub kind_row : Kind → List ℕ
kind_row p2pkh = 1 ∷ []
kind_row p2sh = 2 ∷ []
kind_row p2wpkh = 3 ∷ []
kind_row p2wsh = 4 ∷ []
kind_row p2tr = 5 ∷ []
kind_row p2a = 6 ∷ []
kind_row witness = 7 ∷ []
kind_row p2pk = 8 ∷ []
kind_row multisig = 9 ∷ []
kind_row opreturn = 10 ∷ []
kind_row other = 11 ∷ []

-- a number that was read; its refusals have no values
unfoldable pub reads : Said ℤ → List ℤ → Handed ℤ
reads (answers n) old = into 1 0 (n ∷ []) old
reads (refuses number values) old = into 1 number [] old

-- a mode as a number: 0 is plain, any other minimal
abbrev pub minimal_of : ℕ → Bool
minimal_of mode = not (eqb mode 0)

-- what a builder remembers, as a number: an opcode, or 256 for nothing; any larger one is nothing too
abbrev pub remembered_of : ℕ → Option ℕ
remembered_of n = if ltb n 256 then Some n else None

-- and back
abbrev pub remembered_as : Option ℕ → ℕ
remembered_as None = 256
remembered_as (Some code) = code

-- the builder for the next call, and behind it the refusal's values
unfoldable pub builds : Outcome → List ℕ → Handed ℕ
builds o old = into 3 (number_said o.said) (o.used ∷ (remembered_as o.remembered ∷ values_said (λ done. []) o.said)) old

-- the place for the next call, and behind it what the walk says
unfoldable pub steps : (next : ℕ) → Said Walked → List ℕ → Handed ℕ
steps next said old = into 6 (number_said said) (next ∷ values_said walked_row said) old

-- the same, with the place lent in a slice of its own; one without an entry is the same mistake
unfoldable pub advances : (cursor : List ℕ) (next : ℕ) → Said Walked → List ℕ → Handed ℕ
advances cursor next said old = if ltb (length cursor) 1 then handed SHORT_VALUES old else steps next said old

-- that slice after the call: moved on, unless one of the two is too short
unfoldable pub moved_to : (next : ℕ) (cursor values : List ℕ) → List ℕ
moved_to next cursor values = if ltb (length cursor) 1 || ltb (length values) 6 then cursor else next ∷ drop 1 cursor
