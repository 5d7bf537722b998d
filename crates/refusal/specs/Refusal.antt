-- Document 01's table 'Refusals by number', with document 02's 'Two': the number of each refusal, and the values that its line names. Number 3 is retired.
-- Assumes nothing.
use Rattle.std.specs.Prelude.{ℕ, List, [], ◌∷◌, ltb, length}
use Rattle.std.specs.Prelude.{if◌then◌else◌}
use Rattle.laws.specs.Said.{Said, refuses}
use Rattle.refusal.specs.declared.Refusal.{Refusal}
use Rattle.refusal.specs.declared.Refusal.TheVariants.{
  TooLong,
  NonMinimal,
  NumberTooLong,
  NumberNotMinimal,
  NumberOutOfRange,
  NoRoom,
  BadCursor,
  FeeTooLarge,
  ProgramLength,
  ProgramLengthV0,
  BadVersion,
  BadBuilder,
  LengthCut,
  BodyCut,
}

-- the column 'No.'
abbrev pub number_of : Refusal → ℕ
number_of TooLong = 1
number_of (NonMinimal place) = 2
number_of NumberTooLong = 4
number_of NumberNotMinimal = 5
number_of NumberOutOfRange = 6
number_of (NoRoom needed) = 7
number_of BadCursor = 8
number_of FeeTooLarge = 9
number_of ProgramLength = 10
number_of ProgramLengthV0 = 11
number_of BadVersion = 12
number_of BadBuilder = 13
number_of (LengthCut place missing) = 14
number_of (BodyCut place missing) = 15

-- what the column 'Name' has behind the name: a place, or the bytes or entries needed; 'Both keep the place and add how many bytes are missing'
abbrev pub values_of : Refusal → List ℕ
values_of TooLong = []
values_of (NonMinimal place) = place ∷ []
values_of NumberTooLong = []
values_of NumberNotMinimal = []
values_of NumberOutOfRange = []
values_of (NoRoom needed) = needed ∷ []
values_of BadCursor = []
values_of FeeTooLarge = []
values_of ProgramLength = []
values_of ProgramLengthV0 = []
values_of BadVersion = []
values_of BadBuilder = []
values_of (LengthCut place missing) = place ∷ missing ∷ []
values_of (BodyCut place missing) = place ∷ missing ∷ []

-- a refusal, as an entry says it
abbrev pub said_refusal : {A : Type 0} → Refusal → Said A
said_refusal r = refuses (number_of r) (values_of r)

-- the longest script, in bytes
abbrev pub limit : ℕ
limit = 4194304

-- refusal 1 for bytes over the limit, and else what is said of them
abbrev pub within_limit : {A : Type 0} → List ℕ → Said A → Said A
within_limit s said = if ltb limit (length s) then refuses 1 [] else said
