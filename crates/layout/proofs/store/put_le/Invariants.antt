-- `layout::store::put_le` meets its contract. The loop's invariant: the bytes before the index, and those of `rest` behind them, are what is to be
-- written. Assumes nothing.
use mathlib.Core.Path.{◌≡◌}
use mathlib.Core.List.{◌++◌}
use Prim.Native.Nat.{◌-◌}
use lib.ListN.{length, take}
use Rattle.script.specs.Instruction.{write_le}
use Rattle.layout.proofs.store.put_le.Given as goal

abbrev pub invariant-loop-b : goal.invariant-loop-b
invariant-loop-b l = take l.b-index l.b-items ++ write_le (length l.b-items - l.b-index) l.rest ≡ write_le (length l.b-items) l.n
