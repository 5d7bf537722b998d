-- An answer is known by what it says, and a refusal is no answer. Assumes nothing.
use mathlib.Core.Path.{◌≡◌}
use mathlib.Core.List.{List}
use Prim.Native.Nat.{ℕ}
use Rattle.laws.specs.Said.{answers, refuses}

pub answered : {A : Type 0} {a b : A} → answers a ≡ answers b → a ≡ b
answered e = cc

pub not_refused : {A : Type 0} {number : ℕ} {values : List ℕ} {a x y : A} → refuses number values ≡ answers a → x ≡ y
not_refused e = cc
