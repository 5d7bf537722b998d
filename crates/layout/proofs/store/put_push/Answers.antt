-- `layout::store::put_push` meets its contract: three runs of stores, one after the other. Assumes nothing.
use mathlib.Core.Path.{◌≡◌, sym, ap, ◌∙◌}
use mathlib.Core.List.{List}
use Prim.Native.Nat.{ℕ, ◌+◌, ◌-◌, ◌≤◌}
use native.Mathlib.Omega.{arith}
use borrow.Rule.Slice.PartMut.{mid_of, put_mid}
use lib.ListN.{length, drop, set, length-set, length-drop}
use lib.Seq.{sets, length-sets, length-take-le}
use Rattle.copying.proofs.Whole.{part_copied}
use Rattle.script.specs.Instruction.{write_le}
use Rattle.script.proofs.Encoding.{write_length}
use Rattle.layout.proofs.Stored.{part_written, pushed}
use Rattle.layout.proofs.store.put_push.Goals as goal
use Rattle.layout.proofs.store.put_push.Goals.{After-put_le}

-- the length bytes in their place
laid : (c : After-put_le) →
    let m = set c.args.buffer.now c.args.at c.args.code in
    put_mid (c.args.at + 1) (c.args.at + 1 + c.args.width - (c.args.at + 1)) m c.put_le.new.out ≡ sets m (c.args.at + 1) (write_le c.args.width (length c.args.body.now))
laid c =
    let m = set c.args.buffer.now c.args.at c.args.code in
    let n = length c.args.body.now in
    let k : c.args.at + 1 + c.args.width - (c.args.at + 1) ≡ c.args.width = omega arith in
    let r : c.args.width ≤ length (drop (c.args.at + 1) m) = simp (length-drop, length-set) (omega arith) in
    let l : length (mid_of (c.args.at + 1) (c.args.at + 1 + c.args.width - (c.args.at + 1)) m) ≡ c.args.width = rw k (length-take-le c.args.width (drop (c.args.at + 1) m) r) in
    let o : c.put_le.new.out ≡ write_le c.args.width n = c.put_le.ensures ∙ ap (λ (j : ℕ). write_le j n) l in
    rw (k, o) (part_written m (write_le c.args.width n) (c.args.at + 1) c.args.width (sym (write_length c.args.width n)) (simp length-set (omega arith)))

pub returns : goal.returns
returns c =
    let s = (goal.at.returns c).After-put_le in
    let m = set c.args.buffer.now c.args.at c.args.code in
    let b = put_mid (c.args.at + 1) (c.args.at + 1 + c.args.width - (c.args.at + 1)) m c.put_le.new.out in
    let start = c.args.at + 1 + c.args.width in
    let l : length b ≡ length c.args.buffer.now = ap length (laid s) ∙ simp (length-sets, length-set) in
    part_copied c.args.body.now b start (omega (arith, l, c.requires)) c.copy.ensures.left
    ∙ ap (λ (x : List ℕ). sets x start c.args.body.now) (laid s)
    ∙ pushed c.args.buffer.now c.args.at c.args.code c.args.width (length c.args.body.now) c.args.body.now
