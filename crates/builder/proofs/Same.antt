-- Answers that say the same are the same, and calls that leave the same gave the same. Assumes nothing.
use mathlib.Core.Path.{◌≡◌, ap, ap₂}
use mathlib.Core.List.{List}
use Prim.Native.Nat.{ℕ}
use Rattle.refusal.proofs.Same.{same_answer}
use Rattle.building.specs.Lent.{Outcome}
use Rattle.builder.specs.Answer.{said_built}
use Rattle.builder.specs.declared.Builder.{Builder}
use Rattle.builder.specs.declared.Built.{Built}
use Rattle.refusal.specs.declared.Refusal.{Refusal}
use Rattle.std.specs.Prelude.{Result, Option}

abbrev builder : ℕ → (Option ℕ) → Builder
builder length remembered = record { length = length; remembered = remembered }

abbrev built : Result (Unit {0}) Refusal → Builder → Built
built answer builder = record { answer = answer; builder = builder }

pub same_builder : (a b : Builder) → a.length ≡ b.length → a.remembered ≡ b.remembered → a ≡ b
same_builder a b l m = ap₂ builder l m

pub same_built : (r t : Built) (old new : List ℕ) → said_built r old ≡ said_built t new → (r ≡ t) × (old ≡ new)
same_built r t old new e = (
  ap₂ built
      (same_answer r.answer t.answer (ap (λ (o : Outcome). o.said) e))
      (same_builder r.builder t.builder (ap (λ (o : Outcome). o.used) e) (ap (λ (o : Outcome). o.remembered) e)),
  ap (λ (o : Outcome). o.buffer) e,
)
