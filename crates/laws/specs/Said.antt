-- What an entry says in document 01's terms: an answer, or a refusal by its number there with the values that stand beside the number.
-- Assumes nothing.
use Rattle.std.specs.Prelude.{ℕ, List}

pub data Said (A : Type 0) : Type 0 where
  answers : A → Said A
  refuses : ℕ → List ℕ → Said A

-- what comes first decides: its refusal, and else what comes after it
abbrev pub unless : {A B : Type 0} → Said A → Said B → Said B
unless (answers a) said = said
unless (refuses number values) said = refuses number values
