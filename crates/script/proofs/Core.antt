-- The walk is Core's: an instruction is handed out exactly where GetScriptOp reads one, in minimal mode where besides CheckMinimalPush
-- accepts a push. Assumes nothing.
use mathlib.Core.Path.{◌≡◌, refl, sym, ap₂, ◌∙◌}
use mathlib.Core.Logic.{◌↔◌, ⊎_elim}
use mathlib.Core.Bool.{Bool, true, false, ◌&&◌}
use mathlib.Core.List.{List}
use Prim.Native.Nat.{ℕ, ◌+◌, ◌≤◌, ◌<◌}
use native.Mathlib.Omega.{arith}
use borrow.Author.Tests.{le-leb, lt-leb, not-true, not-false}
use lib.ListN.{length}
use Rattle.laws.proofs.Test.{lt_or_le}
use Rattle.refusal.specs.Refusal.{limit}
use Rattle.opcodes.specs.Opcode.{sort_of}
use Rattle.script.specs.Script.{fails, reads, get_script_op, check_minimal_push}
use Rattle.opcodes.specs.Core.{OP_PUSHDATA4}
use Rattle.script.specs.Walk.{found, walked, not_minimal}
use Rattle.script.specs.Instruction.{Bytes, size, wasteful}
use Rattle.script.specs.Calls.{HandsOut}
use Rattle.script.proofs.Step.{inside}
use Rattle.script.proofs.Encoding.{bytes_laid}
use Rattle.script.proofs.Reading.{laid_reads}
use Rattle.script.proofs.Exactly.{judges, not_both, Says, says_end, hands, refused, says, hands_exactly, hands_next}

-- `not_minimal` in words: CheckMinimalPush accepts, if it is a push
accepted : (code : ℕ) (vch : List ℕ) → not_minimal code vch ≡ false ↔ (code ≤ OP_PUSHDATA4 → check_minimal_push vch code ≡ true)
unfolding not_minimal
accepted code vch = (
  λ e h. not-false (check_minimal_push vch code) (rw (le-leb code OP_PUSHDATA4 h) at e),
  λ f. ⊎_elim (λ (a : OP_PUSHDATA4 < code). rw (lt-leb code OP_PUSHDATA4 a)) (λ (h : code ≤ OP_PUSHDATA4). rw (le-leb code OP_PUSHDATA4 h, f h)) (lt_or_le OP_PUSHDATA4 code),
)

module _ (s : List ℕ) (l : length s ≤ limit) (bytes : Bytes s) (at code : ℕ) (vch : List ℕ) (pc : ℕ) where
  read_inside : get_script_op s at ≡ reads code vch pc → at < length s
  unfolding get_script_op
  read_inside e =
      ⊎_elim (λ h. h) (λ (g : length s ≤ at). let f : fails ≡ reads code vch pc = rw (le-leb (length s) at g) at e in let z : ◌≡◌ {A = ℕ} 0 1 = cc in absurd (omega arith))
      (lt_or_le at (length s))

  core_hands : (minimal : Bool) → (get_script_op s at ≡ reads code vch pc) × ((minimal && not_minimal code vch) ≡ false) ↔ HandsOut minimal s at code vch pc
  core_hands minimal = (λ e. let h = read_inside e.0 in there h e.0 e.1 (says minimal s l at bytes (omega arith)), back)
    where
      there : at < length s → get_script_op s at ≡ reads code vch pc → (minimal && not_minimal code vch) ≡ false → Says minimal s l at
          → HandsOut minimal s at code vch pc
      there h e m (says_end p) = absurd (omega arith)
      there h e m (hands i a g n) =
          let r = laid_reads s at i a.stands (bytes_laid s at i a.bytes) in
          let q : at + size i ≡ pc = cc in
          record { i = i; hands = g; code_is = cc; data_is = cc; next = n ∙ q }
      there h e m (refused number values r) =
          absurd (not_both minimal s l at {w = found (walked (sort_of code) at code (length vch))} r (inside minimal s at l h ∙ rw (e, m)))

      back : HandsOut minimal s at code vch pc → (get_script_op s at ≡ reads code vch pc) × ((minimal && not_minimal code vch) ≡ false)
      back h =
          let a = (hands_exactly minimal s l at bytes h.i).1 h.hands in
          let r = laid_reads s at h.i a.stands (bytes_laid s at h.i a.bytes) in
          let n = hands_next minimal s l at bytes h.i h.hands in
          let same : not_minimal code vch ≡ wasteful h.i = sym (ap₂ not_minimal h.code_is h.data_is) ∙ judges h.i a.stands in
          (r ∙ rw (h.code_is, h.data_is, ← n, h.next), rw same (not-true (minimal && wasteful h.i) a.taken))

  -- Plain mode: a call hands out an instruction exactly where GetScriptOp gives true, with its opcode, its data and its next position.
  pub core_plain : get_script_op s at ≡ reads code vch pc ↔ HandsOut false s at code vch pc
  core_plain = (λ e. (core_hands false).0 (e, refl), λ h. ((core_hands false).1 h).0)

  -- Minimal mode: exactly where besides, for a push, CheckMinimalPush gives true.
  pub core_minimal : (get_script_op s at ≡ reads code vch pc) × (code ≤ OP_PUSHDATA4 → check_minimal_push vch code ≡ true) ↔ HandsOut true s at code vch pc
  core_minimal =
      (λ e. (core_hands true).0 (e.0, (accepted code vch).1 e.1), λ h. let e = (core_hands true).1 h in (e.0, (accepted code vch).0 e.1))
