-- `measure::measure` meets its contract. The outer invariant: what is measured, with the text from here on, is as long as the whole text; its
-- measure is what is left of the script. The inner one: the length bytes behind i are read. Assumes nothing.
use mathlib.Core.Path.{◌≡◌, sym, subst}
use mathlib.Core.List.{List, ◌++◌}
use Prim.Native.Nat.{ℕ, ◌+◌, ◌≤◌}
use native.Mathlib.Omega.{arith}
use lib.ListN.{length, get_or}
use Rattle.script.specs.Instruction.{Bytes}
use Rattle.asm.specs.Asm.{opcode_text, space_at, data_len, text_from}
use Rattle.asm.proofs.Sizes.{space_short, opcode_short}
use Rattle.asm.proofs.LengthStep.{cut, more, all, whole}
use Rattle.measure.proofs.Measured.{Measured, length_cut, body_cut, body_whole}
use Rattle.asm.proofs.Turn.{says, length_cut as cut_at, behind, opened, behind_cut, behind_whole}
use Rattle.measure.proofs.measure.Goals as goal
use Rattle.measure.proofs.measure.Goals.{After-opcode_text_len}

-- where the name's length is known
module _ (d : After-opcode_text_len) where
  abbrev s : List ℕ
  s = d.args.script.now

  abbrev at : ℕ
  at = d.script.at

  bytes : Bytes s
  bytes i = omega (arith, d.type_inv.script i)

  there : at + 1 + d.length_bytes_after-k.result ≤ length s
  there = whole d.loop-i.invariant.0 (omega arith) d.script-test.true

  so_far : Measured s d.loop-i.n at
  so_far = subst (λ (n : ℕ). Measured s n at) (sym d.loop-i.invariant.1) d.script.invariant

  named : text_from s at ≡ space_at at ++ (opcode_text (get_or s at 0) ++ behind s at)
  named = opened s at d.script-test.true d.length_bytes_after-k.ensures there

  len_is : d.data_len-len.result ≡ data_len s at
  len_is = says s at d.script-test.true d.length_bytes_after-k.ensures (all d.loop-i.invariant.0 (omega arith)) d.data_len-len.ensures

  space : d.space_len.result ≤ 1
  space = omega (arith, d.space_len.ensures, space_short at)

  name : d.opcode_text_len.result ≤ 22
  name = omega (arith, d.opcode_text_len.ensures, opcode_short (get_or s at 0) (bytes at))

pub loop-i-preserved : goal.loop-i-preserved
loop-i-preserved c =
    (more c.loop-i.invariant.0 (λ i. omega (arith, c.type_inv.script i)) c.loop-i-test.true c.if-script-at.false c.from.ensures, c.loop-i.invariant.1)

pub script-preserved : goal.script-preserved
script-preserved c =
    let d = (goal.at.script-preserved c).After-opcode_text_len in
    body_whole (so_far d) (space_at (at d)) (opcode_text (get_or (s d) (at d) 0)) (behind (s d) (at d)) (named d) c.space_len.ensures c.opcode_text_len.ensures
    (behind_whole (s d) (at d) c.script-test.true c.length_bytes_after-k.ensures (there d) (len_is d) c.if-script-body.false)
    c.data_text_len-n.ensures (omega arith) (there d) c.if-script-body.false (space d) (name d)

pub returns-then-script-at : goal.returns-then-script-at
returns-then-script-at c =
    let h = c.script-test.true in
    omega (
      arith,
      c.loop-i.invariant.1,
      length_cut c.script.invariant
          (cut_at c.args.script.now c.script.at h c.length_bytes_after-k.ensures (cut c.loop-i.invariant.0 c.loop-i-test.true h c.if-script-at.true)),
    )

pub returns-then-script-body : goal.returns-then-script-body
returns-then-script-body c =
    let d = (goal.at.returns-then-script-body c).After-opcode_text_len in
    body_cut (so_far d) (space_at (at d)) (opcode_text (get_or (s d) (at d) 0)) (behind (s d) (at d)) (named d) c.space_len.ensures c.opcode_text_len.ensures
    (behind_cut (s d) (at d) c.script-test.true c.length_bytes_after-k.ensures (there d) (len_is d) c.if-script-body.true)
