-- A builder call over a lent buffer: the refusals in document 01's order, and what the call leaves. Assumes nothing.
use Rattle.std.specs.Prelude.{◌≡◌, Bool, false, not, ◌||◌, List, [], ◌∷◌, ◌++◌, ℕ, ◌-◌, ltb, eqb, length, take, drop, get_or}
use Rattle.std.specs.Prelude.{Option, None, Some}
use Rattle.std.specs.Prelude.{if◌then◌else◌}
use Rattle.laws.specs.Said.{Said, answers, refuses, unless}
use Rattle.refusal.specs.Refusal.{limit}
use Rattle.building.specs.Builder.{State, Call}

-- refusal 13: 'an opcode is remembered and the length is 0 or the last byte is another'
abbrev pub not_last : Option ℕ → ℕ → List ℕ → Bool
not_last None used buffer = false
not_last (Some code) used buffer = eqb used 0 || not (eqb (get_or buffer (used - 1) 0) code)

-- the builder that a call is given: 1 for its used length, then 13
unfoldable pub builder_says : ℕ → Option ℕ → List ℕ → Said (Unit {0})
builder_says used remembered buffer =
    if ltb limit used then refuses 1 []
    else if ltb (length buffer) used || not_last remembered used buffer then refuses 13 []
    else answers tt

-- the built script: 1, and 7 with its whole length against the whole buffer
unfoldable pub built_says : ℕ → ℕ → Said (Unit {0})
built_says size room =
    if ltb limit size then refuses 1 []
    else if ltb room size then refuses 7 (size ∷ [])
    else answers tt

-- what the call builds, where it refuses nothing itself
abbrev pub within : ℕ → Said State → Said State
within room (answers st) = unless (built_says (length st.bytes) room) (answers st)
within room (refuses number values) = refuses number values

-- the answer, the builder for the next call, and the buffer
pub record Outcome : Type 0 where
  pub said : Said (Unit {0})
  pub used : ℕ
  pub remembered : Option ℕ
  pub buffer : List ℕ

-- 'A refused builder call hands back the builder it got', and changes no buffer; else the built script, and then what stood there before
abbrev pub leaves : Said State → ℕ → Option ℕ → List ℕ → Outcome
leaves (answers st) used remembered buffer =
    record {
      said = answers tt;
      used = length st.bytes;
      remembered = st.remembered;
      buffer = st.bytes ++ drop (length st.bytes) buffer;
    }
leaves (refuses number values) used remembered buffer =
    record { said = refuses number values; used = used; remembered = remembered; buffer = buffer }

-- a call by a builder that uses so many bytes of a buffer and remembers this: 1 and 13, the call's own refusal, 1 and 7
unfoldable pub calls : Call → ℕ → Option ℕ → List ℕ → Outcome
calls call used remembered buffer =
    leaves
    (unless (builder_says used remembered buffer) (within (length buffer) (call (record { bytes = take used buffer; remembered = remembered }))))
    used remembered buffer

-- how many bytes of the buffer are shown: the used ones, and none where the builder would be refused
abbrev pub shown_if : Said (Unit {0}) → ℕ → ℕ
shown_if (answers done) used = used
shown_if (refuses number values) used = 0

-- as_bytes
unfoldable pub shown : ℕ → Option ℕ → List ℕ → ℕ
shown used remembered buffer = shown_if (builder_says used remembered buffer) used

-- what a call remembers is the last byte that it leaves, where it refuses nothing itself
abbrev pub EndsIn : Said State → Type 0
EndsIn (answers st) = not_last st.remembered (length st.bytes) st.bytes ≡ false
EndsIn (refuses number values) = Unit {0}

-- .. whatever it is given
abbrev pub Ends : Call → Type 0
Ends call = (st : State) → EndsIn (call st)
