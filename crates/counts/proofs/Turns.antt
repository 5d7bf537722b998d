-- A loop over the plain walk goes with Core's loop: what is counted so far, and what Core's loop makes of the rest, is Core's count.
-- Assumes nothing.
use mathlib.Core.Path.{◌≡◌, refl, sym, ◌∙◌}
use mathlib.Core.Logic.{⊎_elim}
use mathlib.Core.Bool.{Bool, false}
use mathlib.Core.List.{List, []}
use Prim.Native.Nat.{ℕ, zero, suc, ◌+◌, ◌-◌, ◌≤◌, ◌<◌}
use native.Mathlib.Nat.{add-zero}
use native.Mathlib.Omega.{arith}
use borrow.Author.Tests.{lt-ltb, le-ltb, le-leb, ne_eqb}
use lib.ListN.{length, get_or, take, drop}
use Rattle.laws.specs.Said.{answers, refuses}
use Rattle.laws.proofs.Test.{lt_or_le}
use Rattle.refusal.specs.Refusal.{limit}
use Rattle.opcodes.specs.Opcode.{PushForm, direct, pushdata1, pushdata2, pushdata4}
use Rattle.script.specs.Script.{ScriptOp, fails, reads, assign, get_script_op}
use Rattle.script.specs.Walk.{found, opcode, push, judged, walk_says, next_at}
use Rattle.script.proofs.Good.{OpcodeAt, PushAt, good_answer}
use Rattle.script.proofs.Minimal.{IsOf}
use Rattle.script.proofs.Step.{inside, push_code, opcode_read, push_read}
use Rattle.counts.specs.Count.{sig_ops, while, get_sig_op_count}
use Rattle.opcodes.specs.Core.{OP_INVALIDOPCODE}

-- ---- Core's loop

-- Core's loop from pc on gives the whole count, and has turns for what is left
pub record Counting (acc : Bool) (s : List ℕ) (pc n last : ℕ) : Type 0 where
  pub turns : ℕ
  pub enough : length s ≤ turns + pc
  pub rest : while turns acc s pc n last ≡ get_sig_op_count acc s

pub begins : (acc : Bool) (s : List ℕ) → Counting acc s 0 0 OP_INVALIDOPCODE
unfolding get_sig_op_count
begins acc s = record { turns = length s; enough = omega arith; rest = refl }

module _ (acc : Bool) (s : List ℕ) {pc n last : ℕ} where
  -- an opcode was read
  pub goes_on : {code : ℕ} {vch : List ℕ} {q : ℕ} → Counting acc s pc n last → pc < length s → pc < q → get_script_op s pc ≡ reads code vch q
      → Counting acc s q (n + sig_ops acc last code) code
  unfolding while
  goes_on {code} {vch} {q} k h m e = go k.turns k.enough k.rest
    where
      go : (t : ℕ) → length s ≤ t + pc → while t acc s pc n last ≡ get_sig_op_count acc s → Counting acc s q (n + sig_ops acc last code) code
      go zero l r = absurd (omega arith)
      go (suc t) l r = record { turns = t; enough = omega arith; rest = rw (lt-ltb pc (length s) h, e) at r }

  -- nothing was
  pub stops : Counting acc s pc n last → get_script_op s pc ≡ fails → n ≡ get_sig_op_count acc s
  unfolding while
  stops k e = go k.turns k.rest
    where
      go : (t : ℕ) → while t acc s pc n last ≡ get_sig_op_count acc s → n ≡ get_sig_op_count acc s
      go zero r = r
      go (suc t) r =
          ⊎_elim (λ (h : pc < length s). rw (lt-ltb pc (length s) h, e) at r) (λ (h : length s ≤ pc). rw (le-ltb pc (length s) h) at r) (lt_or_le pc (length s))

-- ---- what the plain walk's answers say of GetScriptOp

module _ (s : List ℕ) (p : ℕ) where
  pub end_fails : length s ≤ p → get_script_op s p ≡ fails
  unfolding get_script_op
  end_fails h = rw (le-leb (length s) p h)

  pub refused_fails : {number : ℕ} {values : List ℕ} → length s ≤ limit → p ≤ length s → walk_says false s p ≡ refuses number values → get_script_op s p ≡ fails
  refused_fails {number} {values} l w e =
      ⊎_elim (λ (h : p < length s). go (get_script_op s p) (sym (inside false s p l h) ∙ e)) end_fails (lt_or_le p (length s))
    where
      go : (o : ScriptOp) → judged false s p o ≡ refuses number values → o ≡ fails
      go fails e = refl
      go (reads code vch pc) e = cc

  pub opcode_reads : {place code : ℕ} → OpcodeAt s p place code → get_script_op s p ≡ reads code [] (p + 1)
  opcode_reads g = rw g.is (opcode_read s p (omega (arith, g.fits)) (rw g.is at g.above))

  pub push_reads : {place : ℕ} {form : PushForm} {body len : ℕ} → PushAt false s p place form body len
      → get_script_op s p ≡ reads (get_or s p 0) (take len (drop body s)) (body + len)
  unfolding assign
  push_reads {form = form} {body} {len} g =
      push_read s p (omega (arith, g.fits, g.starts)) form (push_code (get_or s p 0) form g.form_is)
      ∙ rw (← g.starts, ← g.says, le-ltb (length s) body (omega (arith, g.fits)), le-ltb (length s - body) len (omega (arith, g.fits)))

-- a push counts nothing
below : (form : PushForm) (b : ℕ) → IsOf form b → b ≤ 78
below direct b o = omega arith
below pushdata1 b o = omega arith
below pushdata2 b o = omega arith
below pushdata4 b o = omega arith

counts_none : (acc : Bool) (last code : ℕ) → code < 0xac → sig_ops acc last code ≡ 0
unfolding sig_ops
counts_none acc last code h =
    rw (ne_eqb code 0xac (omega arith), ne_eqb code 0xad (omega arith), ne_eqb code 0xae (omega arith), ne_eqb code 0xaf (omega arith))

pub push_none : (acc : Bool) (last : ℕ) (s : List ℕ) (p : ℕ) {place : ℕ} {form : PushForm} {body len : ℕ} → PushAt false s p place form body len
    → sig_ops acc last (get_or s p 0) ≡ 0
push_none acc last s p {form = form} g =
    let h = below form (get_or s p 0) (push_code (get_or s p 0) form g.form_is) in counts_none acc last (get_or s p 0) (omega arith)

-- ---- one turn of a loop over the plain walk, by what `Cursor::next` found

module _ (acc : Bool) (s : List ℕ) {p n last q : ℕ} (k : Counting acc s p n last) (m : q ≡ next_at false s p) where
  pub after_opcode : {place code : ℕ} → walk_says false s p ≡ answers (found (opcode place code)) → Counting acc s q (n + sig_ops acc last code) code
  unfolding next_at
  after_opcode e =
      let g = good_answer false s p _ e in
      let j : q ≡ p + 1 = m ∙ rw e in
      rw j (goes_on acc s k (omega (arith, g.fits)) (omega arith) (opcode_reads s p g))

  pub after_push : {place : ℕ} {form : PushForm} {body len : ℕ} → walk_says false s p ≡ answers (found (push place form body len)) → Counting acc s q n (get_or s p 0)
  unfolding next_at
  after_push {form = form} {body} {len} e =
      let g = good_answer false s p _ e in
      let j : q ≡ body + len = m ∙ rw (e, g.starts) (omega arith) in
      let z : n + sig_ops acc last (get_or s p 0) ≡ n = rw (push_none acc last s p g, add-zero) in
      rw (j, ← z) (goes_on acc s k (omega (arith, g.starts, g.fits)) (omega (arith, g.starts)) (push_reads s p g))
