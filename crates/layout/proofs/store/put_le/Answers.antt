-- `layout::store::put_le` meets its contract. The loop's invariant: the bytes before the index, and those of `rest` behind them, are what is to be
-- written. Assumes nothing.
use mathlib.Core.Path.{◌≡◌}
use mathlib.Core.List.{List, ◌++◌}
use Prim.Native.Nat.{ℕ, suc, ◌+◌, ◌-◌, ◌/◌, ◌%◌, ◌<◌}
use native.Mathlib.Numerals.{add-one}
use native.Mathlib.Omega.{arith}
use lib.ListN.{length, take, set, length-set}
use lib.Seq.{take-suc-set, append_snoc}
use Rattle.script.specs.Instruction.{write_le}
use Rattle.layout.proofs.store.put_le.Goals as goal

-- a turn of the loop
turn : (items : List ℕ) (i rest : ℕ) (w : List ℕ) → i < length items → take i items ++ write_le (length items - i) rest ≡ w
    → take (i + 1) (set items i (rest % 256)) ++ write_le (length items - (i + 1)) (rest / 256) ≡ w
unfolding write_le
turn items i rest w h e =
    let l : length items - i ≡ suc (length items - suc i) = omega arith in
    rw (add-one, take-suc-set items i (rest % 256) h, append_snoc) (rw l at e)

pub loop-b-preserved : goal.loop-b-preserved
loop-b-preserved c =
    let l = c.loop-b in
    rw length-set (turn l.b-items l.b-index l.rest _ (omega arith) l.invariant)
