-- `text::put::put_hex` meets its contract. The loop's invariant: what is still to be stored, stored from here on, gives the buffer at the end.
-- Assumes nothing.
use mathlib.Core.Path.{sym, ◌∙◌}
use native.Mathlib.Omega.{arith}
use lib.ListN.{length-set}
use Rattle.text.proofs.Stored.{store_hex}
use Rattle.text.proofs.put.put_hex.Goals as goal

pub loop-b-preserved : goal.loop-b-preserved
loop-b-preserved c =
    let l = c.loop-b in
    let g = c.args in (
      simp length-set l.invariant.0,
      omega arith,
      rw (c.hex_digit.ensures, c.hex_digit-in-loop-b.ensures)
          (sym (store_hex l.out g.bytes.now l.m l.b-index c.loop-b-test.true) ∙ l.invariant.2),
    )
