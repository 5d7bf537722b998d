-- Loops over `Cursor::next`: each turn takes one answer off the walk, by the variant that was found. Assumes nothing.
use mathlib.Core.Path.{◌≡◌, sym, ap, ◌∙◌}
use mathlib.Core.Bool.{Bool}
use mathlib.Core.List.{List}
use mathlib.Core.Logic.{◌⊎◌, inl, inr}
use Prim.Native.Nat.{ℕ, ◌<◌}
use Rattle.opcodes.specs.Opcode.{sort_of, said_class}
use Rattle.opcodes.specs.declared.Class.{Class}
use Rattle.opcodes.specs.declared.Class.TheVariants.{PushNum, Ordinary}
use Rattle.script.proofs.Step.{number_code, plain_code}
use Rattle.script.specs.Walk.{walk_says, next_at}
use Rattle.script.specs.Run.{continue, walk_from}
use Rattle.walk.specs.Answer.{said_found}
use Rattle.std.specs.Prelude.{Result, Ok, Option, Some}
use Rattle.refusal.specs.declared.Refusal.{Refusal}
use Rattle.walk.specs.declared.Instruction.{Instruction}
use Rattle.walk.specs.declared.Stepped.{Stepped}
use Rattle.script.proofs.Good.{Good, good_answer}
use Rattle.script.proofs.Run.{Moved, turn, moves}

-- what a step finds
abbrev pub Found : Type 0
Found = Result (Option Instruction) Refusal

-- .. seen through the three patterns of an instruction
pub finds : {r : Found} {o : Option Instruction} {i j : Instruction} → r ≡ Ok o → o ≡ Some i → i ≡ j → r ≡ Ok (Some j)
finds p q e = p ∙ ap Ok (q ∙ ap Some e)

-- an opcode of the two classes that are no push
pub no_push : (code : ℕ) {k : Class} → said_class k ≡ sort_of code → (k ≡ PushNum) ⊎ (k ≡ Ordinary) → 78 < code
no_push code e (inl p) = number_code code (sym e ∙ ap said_class p)
no_push code e (inr p) = plain_code code (sym e ∙ ap said_class p)

module _ (minimal : Bool) (s : List ℕ) (p : ℕ) {r : Stepped} {f : Found}
    (met : (said_found r.found ≡ walk_says minimal s p) × (r.next.at ≡ next_at minimal s p)) (is : r.found ≡ f) where
  pub turn_at : walk_from minimal s p ≡ continue (said_found f) (walk_from minimal s r.next.at)
  turn_at = turn minimal s p (ap said_found (sym is) ∙ met.0) met.1

  pub moves_at : Moved s p r.next.at (said_found f)
  moves_at = moves minimal s p (ap said_found (sym is) ∙ met.0) met.1

  pub says_at : walk_says minimal s p ≡ said_found f
  says_at = sym met.0 ∙ ap said_found is

  pub good_at : Good minimal s p (said_found f)
  good_at = good_answer minimal s p (said_found f) says_at
