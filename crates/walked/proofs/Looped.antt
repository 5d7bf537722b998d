-- Core's loop over GetOp is the plain walk, turn by turn: what it reads is the walk's next instruction, and where it fails the walk refuses. Assumes nothing.
use mathlib.Core.Path.{◌≡◌, refl, sym, ap, ◌∙◌}
use mathlib.Core.Logic.{⊎_elim}
use mathlib.Core.Bool.{true, false, and-false}
use mathlib.Core.List.{List}
use Prim.Native.Nat.{ℕ, zero, suc, ◌+◌, ◌≤◌, ◌<◌}
use native.Mathlib.Omega.{arith}
use borrow.Author.Tests.{lt-ltb, le-ltb, le-leb, lt-leb}
use lib.Dec.{leb}
use lib.ListN.{length}
use Rattle.laws.specs.Said.{answers}
use Rattle.laws.proofs.Test.{lt_or_le}
use Rattle.refusal.specs.Refusal.{limit}
use Rattle.opcodes.specs.Core.{OP_16}
use Rattle.opcodes.specs.Opcode.{sort_of}
use Rattle.script.specs.Script.{ScriptOp, fails, reads, get_script_op, lacks}
use Rattle.script.specs.Walk.{found, walked, judged, walk_says, next_at}
use Rattle.script.specs.Instruction.{Bytes}
use Rattle.script.specs.Run.{item, continue, walk_from}
use Rattle.script.proofs.Step.{at_end, inside, by_lack, by_sort}
use Rattle.script.proofs.Run.{moves, turn}
use Rattle.script.proofs.Core.{core_plain}
use Rattle.walked.specs.Walked.{at_most_op16, push_only_run, is_push_only}
use Rattle.walked.specs.PushOnly.{push_turn, while_push, core_is_push_only}

-- a push is read with an opcode up to 78
most_op16 : (code place len : ℕ) → at_most_op16 (walked (sort_of code) place code len) ≡ leb code OP_16
most_op16 code place len =
    by_sort code (λ k. at_most_op16 (walked k place code len) ≡ leb code OP_16) (λ h. sym (le-leb code 96 (omega arith))) (λ h. sym (le-leb code 96 (omega arith)))
    (λ h. sym (le-leb code 96 (omega arith))) (λ h. sym (le-leb code 96 (omega arith))) (λ h. refl) (λ h. refl)

module _ (s : List ℕ) (l : length s ≤ limit) (bytes : Bytes s) where
  at_last : (pc : ℕ) → length s ≡ pc → true ≡ push_only_run (walk_from false s pc)
  at_last pc e = rw (turn false s pc (sym (at_end false s pc l e)) refl)

  one_turn : (t pc : ℕ) → pc < length s → ((q : ℕ) → pc < q → q ≤ length s → while_push t s q ≡ push_only_run (walk_from false s q))
      → (o : ScriptOp) → get_script_op s pc ≡ o → push_turn o (while_push t s) ≡ push_only_run (walk_from false s pc)
  one_turn t pc h again fails e =
      rw (turn false s pc (sym (inside false s pc l h ∙ ap (judged false s pc) e)) refl)
      (by_lack (λ a. false ≡ push_only_run (continue a (walk_from false s (next_at false s pc)))) pc (lacks s pc) (λ m. refl) (λ m. refl))
  one_turn t pc h again (reads code vch q) e =
      let i = walked (sort_of code) pc code (length vch) in
      let w : walk_says false s pc ≡ answers (found i) = inside false s pc l h ∙ ap (judged false s pc) e in
      let n : next_at false s pc ≡ q = ((core_plain s l bytes pc code vch q).0 e).next in
      let m = moves false s pc (sym w) (sym n) in
      let r : walk_from false s pc ≡ item i (walk_from false s q) = turn false s pc (sym w) (sym n) in
      ⊎_elim
      (λ (g : 96 < code). rw (r, lt-ltb 96 code g, most_op16 code pc (length vch), lt-leb code 96 g, and-false))
      (λ (g : code ≤ 96). rw (r, le-ltb 96 code g, most_op16 code pc (length vch), le-leb code 96 g) (again q m.on m.within))
      (lt_or_le 96 code)

  -- Turns for each byte that is left are enough, and more change nothing.
  pub push_only_turns : (turns pc : ℕ) → length s ≤ turns + pc → pc ≤ length s → while_push turns s pc ≡ push_only_run (walk_from false s pc)
  unfolding while_push
  push_only_turns zero pc h w = at_last pc (omega arith)
  push_only_turns (suc t) pc h w =
      ⊎_elim
      (λ (g : pc < length s).
      rw (lt-ltb pc (length s) g) (one_turn t pc g (λ q on within. push_only_turns t q (omega arith) within) (get_script_op s pc) refl))
      (λ (g : length s ≤ pc). rw (le-ltb pc (length s) g) (at_last pc (omega arith)))
      (lt_or_le pc (length s))

  -- Document 01's words for push-only are Core's loop, of every script of bytes within the limit.
  pub push_only_core : is_push_only s ≡ core_is_push_only s
  unfolding is_push_only core_is_push_only
  push_only_core = sym (push_only_turns (length s) 0 (omega arith) (omega arith))
