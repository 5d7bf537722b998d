-- A script that does not start with a number opcode is no multisig, whatever the walk gives. Assumes nothing.
use mathlib.Core.Path.{◌≡◌, refl, sym, ap, ◌∙◌}
use mathlib.Core.Bool.{Bool, true, false}
use mathlib.Core.List.{List}
use Rattle.std.specs.Prelude.{Option, None, Some}
use Prim.Native.Nat.{ℕ}
use lib.ListN.{get_or}
use Rattle.laws.specs.Said.{Said, answers, refuses}
use Rattle.opcodes.specs.Opcode.{pushnum_of}
use Rattle.script.specs.Walk.{Walked, end, found, opcode, push, walk_says}
use Rattle.script.specs.Run.{Run}
use Rattle.script.proofs.Good.{good_answer}
use Rattle.script.proofs.Run.{turn}
use Rattle.walked.specs.Walked.{opcode_then, number_then, keys_then, is_multisig}

-- what is asked of the first opcode
abbrev pub first : ℕ → Run → Bool
first code rest = number_then (λ m. keys_then m rest) (pushnum_of code)

no_number : (o : Option ℕ) (f : ℕ → Bool) → number_then (λ m. true) o ≡ false → number_then f o ≡ false
no_number None f e = refl
no_number (Some m) f e = cc

module _ (s : List ℕ) (n : number_then (λ m. true) (pushnum_of (get_or s 0 0)) ≡ false) where
  by_answer : (a : Said Walked) → walk_says false s 0 ≡ a → is_multisig s ≡ false
  unfolding is_multisig
  by_answer (answers end) e = ap (opcode_then first) (turn false s 0 (sym e) refl)
  by_answer (answers (found (opcode place code))) e =
      let g = good_answer false s 0 (answers (found (opcode place code))) e in
      ap (opcode_then first) (turn false s 0 (sym e) refl) ∙ rw g.is (no_number (pushnum_of (get_or s 0 0)) _ n)
  by_answer (answers (found (push place form body len))) e = ap (opcode_then first) (turn false s 0 (sym e) refl)
  by_answer (refuses number values) e = ap (opcode_then first) (turn false s 0 (sym e) refl)

  pub not_multisig : is_multisig s ≡ false
  not_multisig = by_answer (walk_says false s 0) refl
