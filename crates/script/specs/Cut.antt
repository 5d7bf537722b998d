-- What was cut, and what mends it: document 02, 'Two'. Assumes nothing.
use Rattle.std.specs.Prelude.{◌≡◌, Bool, false, ◌&&◌, List, [], ◌∷◌, ◌++◌, ℕ, ◌+◌, ◌-◌, ◌≤◌, ◌<◌, length, get_or}
use Rattle.laws.specs.Said.{answers, refuses}
use Rattle.opcodes.specs.Opcode.{PushForm, length_bytes, sort_of}
use Rattle.opcodes.specs.Opcode as sort
use Rattle.script.specs.Walk.{found, push, cut_not_minimal}
use Rattle.script.specs.Steps.{stated}
use Rattle.script.specs.Calls.{call}

-- 'the length bytes are short'
pub record CutLength (s : List ℕ) (place missing : ℕ) : Type 0 where
  -- a push of some form starts at the place
  pub form : PushForm
  pub inside : place < length s
  pub opens : sort_of (get_or s place 0) ≡ sort.push form
  -- its length bytes end so many bytes past the script
  pub short : 0 < missing
  pub ends : place + 1 + length_bytes form ≡ length s + missing

-- 'the body is'
pub record CutBody (minimal : Bool) (s : List ℕ) (place missing : ℕ) : Type 0 where
  -- a push of some form starts at the place
  pub form : PushForm
  pub inside : place < length s
  pub opens : sort_of (get_or s place 0) ≡ sort.push form
  -- its length bytes are there, and the mode's tests for 2 let them pass
  pub there : place + 1 + length_bytes form ≤ length s
  pub passes : (minimal && cut_not_minimal s place) ≡ false
  -- the body that they state ends so many bytes past the script
  pub short : 0 < missing
  pub ends : place + 1 + length_bytes form + stated (length_bytes form) s place ≡ length s + missing

-- the call after n others hands out a push at this place that ends at that one, whatever its form
pub record PushTo (s : List ℕ) (n place upto : ℕ) : Type 0 where
  pub form : PushForm
  pub body : ℕ
  pub len : ℕ
  pub hands : call false s n ≡ answers (found (push place form body len))
  pub ends : body + len ≡ upto

-- plain mode: what the call after n others says of a script with more bytes put behind it, where it refused the script without them
pub record Mended (s more : List ℕ) (n : ℕ) : Type 0 where
  -- the missing bytes of a body are there: the push is handed out and ends with the last of them
  pub body_there : (place missing : ℕ) → call false s n ≡ refuses 15 (place ∷ missing ∷ []) → missing ≤ length more
      → PushTo (s ++ more) n place (length s + missing)
  -- fewer of them are: as many fewer are missing
  pub body_short : (place missing : ℕ) → call false s n ≡ refuses 15 (place ∷ missing ∷ []) → length more < missing
      → call false (s ++ more) n ≡ refuses 15 (place ∷ (missing - length more) ∷ [])
  -- the missing bytes of a length are there: the call says 14 no more
  pub length_there : (place missing : ℕ) → call false s n ≡ refuses 14 (place ∷ missing ∷ []) → missing ≤ length more
      → (values : List ℕ) → call false (s ++ more) n ≡ refuses 14 values → ⊥
  -- fewer of them are: as many fewer are missing
  pub length_short : (place missing : ℕ) → call false s n ≡ refuses 14 (place ∷ missing ∷ []) → length more < missing
      → call false (s ++ more) n ≡ refuses 14 (place ∷ (missing - length more) ∷ [])
