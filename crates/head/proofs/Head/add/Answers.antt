-- `Head::add` keeps zeros behind what is shown. Assumes nothing.
use mathlib.Core.Path.{◌≡◌, sym, ap, ◌∙◌}
use mathlib.Core.List.{List}
use Prim.Native.Nat.{ℕ, ◌+◌, ◌-◌, ◌≤◌}
use native.Mathlib.Omega.{arith}
use borrow.Rule.Slice.PartMut.{mid_of, put_mid}
use lib.ListN.{length, length-drop}
use lib.Seq.{sets, length-sets}
use Rattle.laws.proofs.Stored.{to_end_lem}
use Rattle.copying.proofs.Whole.{all_copied, part_copied}
use Rattle.head.specs.Shown.{shown_length}
use Rattle.head.proofs.Zeros.{zeros_left}
use Rattle.head.proofs.Head.add.Goals as goal

pub invariant_of-self : goal.invariant_of-self
invariant_of-self c =
    let b = c.self.inside.bytes in
    let n = c.self.inside.len in
    let w = c.args.piece.now in
    let inv = c.self.invariant in
    let l : length c.args.self ≡ n = sym (ap (λ (shown : List ℕ). length shown) c.self.view_is) ∙ shown_length b n inv.0 inv.1 in
    let fits : n + length w ≤ 160 = omega (arith, l, c.requires) in
    let room : n + length w ≤ length b = omega (arith, inv.0, fits) in
    let s : put_mid n (length b - n) b c.copy.new.to ≡ sets b n w = part_copied w b n room c.copy.ensures.left in
    let k : c.copy.result ≡ length w =
    all_copied w (mid_of n (length b - n) b) (rw (to_end_lem b n, length-drop) (omega (arith, room))) c.copy.ensures.count in
    rw (s, k) (length-sets b n w ∙ inv.0, fits, zeros_left b n w inv.0 fits inv.2)
