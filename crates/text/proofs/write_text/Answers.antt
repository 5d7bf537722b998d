-- `text::write_text` meets its contract. The outer invariant: what is left of the text, stored from n on, gives the buffer at the end; its
-- measure is what is left of the script. The inner one: the length bytes behind i are read. Assumes nothing.
use mathlib.Core.Path.{◌≡◌, refl}
use mathlib.Core.List.{List, ◌++◌}
use Prim.Native.Nat.{ℕ, ◌+◌, ◌-◌, ◌≤◌, ◌<◌}
use native.Mathlib.Omega.{arith}
use lib.ListN.{length, get_or, take, drop}
use lib.Seq.{sets}
use Rattle.pool.specs.Text.{text}
use Rattle.asm.specs.Asm.{opcode_text, data_text, space_at, data_len, text_from, text_of}
use Rattle.text.proofs.Stored.{Left, on, fits, equal, last}
use Rattle.asm.proofs.LengthStep.{cut, more, all, whole}
use Rattle.asm.proofs.Turn.{says, length_cut, behind, opened, behind_cut, behind_whole}
use Rattle.text.proofs.write_text.Goals as goal
use Rattle.text.proofs.write_text.Goals.{After-data_len-len, Then-script-at}

-- the length bytes are cut
mark : (t : Then-script-at) → Left (text_of t.args.script.now) t.args.out.now t.script.n t.loop-i.out (text "<unexpected end>")
mark t =
    let h = t.script-test.true in
    equal t.script.invariant.1 t.loop-i.invariant.1
    (length_cut t.args.script.now t.script.at h t.length_bytes_after-k.ensures (cut t.loop-i.invariant.0 t.loop-i-test.true h t.if-script-at.true))

-- the data's length is known
module _ (d : After-data_len-len) where
  abbrev s : List ℕ
  s = d.args.script.now

  abbrev at : ℕ
  at = d.script.at

  -- where the data starts
  abbrev b : ℕ
  b = at + 1 + d.length_bytes_after-k.result

  abbrev len : ℕ
  len = d.data_len-len.result

  abbrev space : List ℕ
  space = space_at at

  abbrev name : List ℕ
  name = opcode_text (get_or s at 0)

  abbrev rest : List ℕ
  rest = behind s at

  -- what is left to be stored, in a buffer that has so much of the text
  abbrev ToDo : ℕ → List ℕ → List ℕ → Type 0
  ToDo n out rest = Left (text_of s) d.args.out.now n out rest

  there : b ≤ length s
  there = whole d.loop-i.invariant.0 (omega arith) d.script-test.true

  len_is : len ≡ data_len s at
  len_is = says s at d.script-test.true d.length_bytes_after-k.ensures (all d.loop-i.invariant.0 (omega arith)) d.data_len-len.ensures

  begun : ToDo d.script.n d.loop-i.out (space ++ (name ++ rest))
  begun = equal d.script.invariant.1 d.loop-i.invariant.1 (opened s at d.script-test.true d.length_bytes_after-k.ensures there)

  -- the space is written
  module _ {m : ℕ} {new : List ℕ} (e : m ≡ d.script.n + length space) (f : new ≡ sets d.loop-i.out d.script.n space) where
    spaced : ToDo m new (name ++ rest)
    spaced = on space (name ++ rest) begun e f

    -- the name is written
    module _ {o : ℕ} {newer : List ℕ} (p : o ≡ m + length name) (q : newer ≡ sets new m name) where
      named : ToDo o newer rest
      named = on name rest spaced p q

      -- the body is cut
      body_mark : length s - b < len → ToDo o newer (text " <push past end>")
      body_mark h = equal named refl (behind_cut s at d.script-test.true d.length_bytes_after-k.ensures there len_is h)

      -- it is whole
      body : len ≤ length s - b → ToDo o newer (data_text (take (b + len - b) (drop b s)) ++ text_from s (b + len))
      body h =
          let e : b + len - b ≡ len = omega arith in
          rw e (equal named refl (behind_whole s at d.script-test.true d.length_bytes_after-k.ensures there len_is h))

pub put_unexpected_end-requires : goal.put_unexpected_end-requires
put_unexpected_end-requires c = (mark (goal.at.put_unexpected_end-requires c).Then-script-at).room

pub loop-i-preserved : goal.loop-i-preserved
loop-i-preserved c =
    (more c.loop-i.invariant.0 (λ i. omega (arith, c.type_inv.script i)) c.loop-i-test.true c.if-script-at.false c.from.ensures, c.loop-i.invariant.1)

pub put_space-n-requires : goal.put_space-n-requires
put_space-n-requires c =
    let d = (goal.at.put_space-n-requires c).After-data_len-len in
    fits (space d) (name d ++ rest d) (begun d)

pub put_opcode-n-requires : goal.put_opcode-n-requires
put_opcode-n-requires c =
    let d = (goal.at.put_opcode-n-requires c).After-data_len-len in
    let p = c.put_space-n.ensures in
    fits (name d) (rest d) (spaced d p.next p.left)

pub put_push_past_end-requires : goal.put_push_past_end-requires
put_push_past_end-requires c =
    let d = (goal.at.put_push_past_end-requires c).After-data_len-len in
    let p = c.put_space-n.ensures in
    let q = c.put_opcode-n.ensures in
    (body_mark d p.next p.left q.next q.left c.if-script-body.true).room

pub put_data-n-requires : goal.put_data-n-requires
put_data-n-requires c =
    let d = (goal.at.put_data-n-requires c).After-data_len-len in
    let p = c.put_space-n.ensures in
    let q = c.put_opcode-n.ensures in
    fits (data_text (take (b d + len d - b d) (drop (b d) (s d)))) (text_from (s d) (b d + len d)) (body d p.next p.left q.next q.left c.if-script-body.false)

pub script-preserved : goal.script-preserved
script-preserved c =
    let d = (goal.at.script-preserved c).After-data_len-len in
    let p = c.put_space-n.ensures in
    let q = c.put_opcode-n.ensures in (
      omega (arith, there d),
      on (data_text (take (b d + len d - b d) (drop (b d) (s d)))) (text_from (s d) (b d + len d)) (body d p.next p.left q.next q.left c.if-script-body.false)
          c.put_data-n.ensures.next c.put_data-n.ensures.left,
    )

pub returns-then-script-at : goal.returns-then-script-at
returns-then-script-at c = last (mark (goal.at.returns-then-script-at c).Then-script-at) c.put_unexpected_end.ensures

pub returns-then-script-body : goal.returns-then-script-body
returns-then-script-body c =
    let d = (goal.at.returns-then-script-body c).After-data_len-len in
    let p = c.put_space-n.ensures in
    let q = c.put_opcode-n.ensures in
    last (body_mark d p.next p.left q.next q.left c.if-script-body.true) c.put_push_past_end.ensures
