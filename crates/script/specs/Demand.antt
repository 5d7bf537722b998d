-- 'No byte is lost or read twice', over calls from a fresh cursor until one is refused. Assumes nothing.
use Rattle.std.specs.Prelude.{◌≡◌, ◌↔◌, ◌⊎◌, Bool, List, [], ◌∷◌, ℕ, suc, ◌≤◌, ◌<◌, length, take}
use Rattle.laws.specs.Said.{answers, refuses}
use Rattle.script.specs.Walk.{end}
use Rattle.script.specs.Instruction.{Instruction, Stands, encode_all, sizes, StandsAt, Each}
use Rattle.script.specs.Calls.{position, call, given, handed, NoRefusal}

-- how a refused push is named: by 2 and its place, or by 14 or 15, its place and how many bytes are missing
abbrev pub NamesPlace : (place number : ℕ) → List ℕ → Type 0
NamesPlace place number values =
    ((number ≡ 2) × (values ≡ place ∷ []))
    ⊎ (((number ≡ 14) ⊎ (number ≡ 15)) × ((missing : ℕ) × (values ≡ place ∷ missing ∷ [])))

-- after n calls, none of which was refused, and of the call after them
pub record AfterCalls (minimal : Bool) (s : List ℕ) (n : ℕ) : Type 0 where
  -- 'sizes add up to the position'
  pub sizes_add : sizes (handed minimal s n) ≡ position minimal s n
  -- 'the encodings are the script's first bytes'
  pub within : position minimal s n ≤ length s
  pub first_bytes : encode_all (handed minimal s n) ≡ take (position minimal s n) s
  -- 'no other list of instructions encodes to them'
  pub no_other : (is : List Instruction) → Each Stands is → encode_all is ≡ take (position minimal s n) s → is ≡ handed minimal s n
  -- 'a call refuses exactly if bytes remain and no allowed instruction stands whole there'
  pub refuses_exactly : ((number : ℕ) × (values : List ℕ) × (call minimal s n ≡ refuses number values))
      ↔ (position minimal s n < length s) × ((i : Instruction) → StandsAt minimal s (position minimal s n) i → ⊥)
  -- 'naming that place and moving to the end': the place is the sum of the sizes
  pub refusal_names : (number : ℕ) (values : List ℕ) → call minimal s n ≡ refuses number values
      → NamesPlace (sizes (handed minimal s n)) number values × (position minimal s (suc n) ≡ length s)
  -- 'it says end exactly if no byte remains'
  pub ends_exactly : (call minimal s n ≡ answers end) ↔ (position minimal s n ≡ length s)
  -- else it hands out the allowed instruction that stands there
  pub hands_exactly : (i : Instruction) → StandsAt minimal s (position minimal s n) i ↔ given s (call minimal s n) ≡ i ∷ []

pub record NoByteLost (minimal : Bool) (s : List ℕ) : Type 0 where
  pub until_refused : (n : ℕ) → NoRefusal minimal s n → AfterCalls minimal s n
  -- 'every call ends': call number length + 1 says end
  pub in_time : call minimal s (length s) ≡ answers end
