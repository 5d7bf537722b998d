-- An entry is settled: two outcomes that its contract permits for one input are equal. A contract equates what an answer says with a
-- definition, so it is enough that two answers which say the same are the same. Assumes nothing.
use mathlib.Core.Path.{◌≡◌, sym, ◌∙◌}

pub settled : {A B : Type 0} {say : A → B} → ((a b : A) → say a ≡ say b → a ≡ b) → {x : B} (a b : A) → say a ≡ x → say b ≡ x → a ≡ b
settled same a b p q = same a b (p ∙ sym q)

pub same_value : {A : Type 0} {x a b : A} → a ≡ x → b ≡ x → a ≡ b
same_value p q = p ∙ sym q
