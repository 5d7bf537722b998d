-- Core's loop has turns enough: what GetScriptOp reads ends further on, so a turn for each byte is all that it takes. Assumes nothing.
use mathlib.Core.Path.{◌≡◌, refl, sym, ap}
use mathlib.Core.Bool.{Bool}
use mathlib.Core.List.{List}
use Prim.Native.Nat.{ℕ, zero, suc, ◌+◌, ◌-◌, ◌≤◌, ◌<◌}
use native.Mathlib.Omega.{arith}
use borrow.Author.Tests.{le-ltb}
use lib.Dec.{ltb, leb, eqb}
use lib.ListN.{length, get_or}
use Rattle.std.specs.Prelude.{if◌then◌else◌}
use Rattle.laws.proofs.Test.{by_test}
use Rattle.opcodes.specs.Core.{OP_PUSHDATA1, OP_PUSHDATA2, OP_PUSHDATA4, OP_INVALIDOPCODE}
use Rattle.script.specs.Script.{ScriptOp, fails, reads, read_le, assign, sized, operand, get_script_op}
use Rattle.counts.specs.Count.{turn, while, get_sig_op_count}

-- what is read at pc ends further on
abbrev Further : ℕ → ScriptOp → Type 0
Further pc fails = Unit {0}
Further pc (reads code vch q) = pc < q

module _ (s : List ℕ) (pc : ℕ) where
  assigned : (code n p : ℕ) → pc < p → Further pc (assign code n s p)
  unfolding assign
  assigned code n p h = by_test (Further pc) (ltb (length s - p) n) (λ e. tt) (λ e. omega arith)

  after_length : (k code p : ℕ) → pc < p → Further pc (sized k code s p)
  unfolding sized
  after_length k code p h = by_test (Further pc) (ltb (length s - p) k) (λ e. tt) (λ e. assigned code (read_le k s p) (p + k) (omega arith))

  further : Further pc (get_script_op s pc)
  unfolding get_script_op operand
  further =
      let code = get_or s pc 0 in
      let h : pc < pc + 1 = omega arith in
      by_test (Further pc) (leb (length s) pc) (λ e. tt) λ e.
      by_test (Further pc) (leb code OP_PUSHDATA4)
      (λ e. by_test (Further pc) (ltb code OP_PUSHDATA1) (λ e. assigned code code (pc + 1) h) λ e.
      by_test (Further pc) (eqb code OP_PUSHDATA1) (λ e. after_length 1 code (pc + 1) h) λ e.
      by_test (Further pc) (eqb code OP_PUSHDATA2) (λ e. after_length 2 code (pc + 1) h) λ e.
      by_test (Further pc) (eqb code OP_PUSHDATA4) (λ e. after_length 4 code (pc + 1) h) (λ e. assigned code 0 (pc + 1) h))
      (λ e. h)

module _ (acc : Bool) (s : List ℕ) where
  past : (t pc n last : ℕ) → length s ≤ pc → while t acc s pc n last ≡ n
  unfolding while
  past zero pc n last h = refl
  past (suc t) pc n last h = rw (le-ltb pc (length s) h)

  same_turn : (pc n last : ℕ) (o : ScriptOp) → Further pc o → (f g : ℕ → ℕ → ℕ → ℕ) → ((q m code : ℕ) → pc < q → f q m code ≡ g q m code)
      → turn acc n last o f ≡ turn acc n last o g
  same_turn pc n last fails h f g e = refl
  same_turn pc n last (reads code vch q) h f g e = e q _ _ h

  enough : (a b pc n last : ℕ) → length s ≤ a + pc → length s ≤ b + pc → while a acc s pc n last ≡ while b acc s pc n last
  unfolding while
  enough zero b pc n last h g = sym (past b pc n last (omega arith))
  enough (suc a) zero pc n last h g = past (suc a) pc n last (omega arith)
  enough (suc a) (suc b) pc n last h g =
      ap (λ (x : ℕ). if ltb pc (length s) then x else n)
      (same_turn pc n last (get_script_op s pc) (further s pc) (while a acc s) (while b acc s) (λ q m code l. enough a b q m code (omega arith) (omega arith)))

  -- As many turns as the script has bytes are enough for GetSigOpCount's loop: more change nothing.
  pub count_turns : (turns : ℕ) → length s ≤ turns → while turns acc s 0 0 OP_INVALIDOPCODE ≡ get_sig_op_count acc s
  unfolding get_sig_op_count
  count_turns turns h = enough turns (length s) 0 0 OP_INVALIDOPCODE (omega arith) (omega arith)
