-- The whole walk from a place on: the instructions in order, and the answer that ends it, end or a refusal. Assumes nothing.
use Rattle.std.specs.Prelude.{Bool, List, [], ◌∷◌, ℕ, zero, suc, ◌-◌, length}
use Rattle.laws.specs.Said.{Said, answers, refuses}
use Rattle.script.specs.Walk.{Item, Walked, end, found, walk_says, next_at}

-- an instruction and the walk after it, or the answer that ends it
pub data Run : Type 0 where
  stop : Said Walked → Run
  item : Item → Run → Run

-- an instruction, and the walk after it; end and refusals stop
abbrev pub continue : Said Walked → Run → Run
continue (answers end) rest = stop (answers end)
continue (answers (found i)) rest = item i rest
continue (refuses number values) rest = stop (refuses number values)

-- so many calls from p on, each given the cursor that the one before gave back
unfoldable pub walk_for : ℕ → Bool → List ℕ → ℕ → Run
walk_for zero minimal s p = stop (answers end)
walk_for (suc n) minimal s p = continue (walk_says minimal s p) (walk_for n minimal s (next_at minimal s p))

-- each instruction takes a byte at least, so a call for each byte and one more are enough
unfoldable pub walk_from : Bool → List ℕ → ℕ → Run
walk_from minimal s p = walk_for (suc (length s - p)) minimal s p

-- its instructions
abbrev pub items : Run → List Item
items (stop a) = []
items (item i r) = i ∷ items r

-- the answer that ends it
abbrev pub ending : Run → Said Walked
ending (stop a) = a
ending (item i r) = ending r

-- what a loop over the walk makes of its state
abbrev pub fold {ℓ} : {S : Type ℓ} → (S → Item → S) → S → Run → S × Said Walked
fold f x (stop a) = (x, a)
fold f x (item i r) = fold f (f x i) r
