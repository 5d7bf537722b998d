-- What the answers say that the crates share. Assumes nothing.
use Rattle.std.specs.Prelude.{ℕ, List, [], ◌∷◌, Result, Ok, Err}
use Rattle.laws.specs.Said.{Said, answers}
use Rattle.refusal.specs.Refusal.{said_refusal}
use Rattle.refusal.specs.declared.Refusal.{Refusal}
use Rattle.refusal.specs.declared.Value.{Value}
use Rattle.refusal.specs.declared.Value.TheVariants.{Is, Both, Nothing}

abbrev pub said_value : Value → List ℕ
said_value (Is n) = n ∷ []
said_value (Both n m) = n ∷ m ∷ []
said_value Nothing = []

-- what is answered, or the refusal by its number
abbrev pub said : {A : Type 0} → Result A Refusal → Said A
said (Ok a) = answers a
said (Err r) = said_refusal r

-- the same of what f tells of the answer
abbrev pub said_by : {A B : Type 0} → (A → B) → Result A Refusal → Said B
said_by f (Ok a) = answers (f a)
said_by f (Err r) = said_refusal r
