-- What `check` answered says of the builder. Assumes nothing.
use mathlib.Core.Path.{◌≡◌, sym, ap, ◌∙◌}
use mathlib.Core.List.{List}
use Rattle.std.specs.Prelude.{Option}
use Prim.Native.Nat.{ℕ}
use Rattle.laws.specs.Said.{answers}
use Rattle.refusal.specs.declared.Refusal.{Refusal}
use Rattle.building.specs.Lent.{builder_says}
use Rattle.refusal.specs.Answer.{said}
use Rattle.std.specs.Prelude.{Result, Ok}

module _ (used : ℕ) (remembered : Option ℕ) (buffer : List ℕ) where
  pub good_builder : {a : Result (Unit {0}) Refusal} → said a ≡ builder_says used remembered buffer → a ≡ Ok tt → builder_says used remembered buffer ≡ answers tt
  good_builder e d = sym e ∙ ap said d
