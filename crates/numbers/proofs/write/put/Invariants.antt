-- `numbers::write::put` meets its contract. The loop's invariant: the bytes before the index are written, and `rest` stands for those from it on.
-- Assumes nothing.
use mathlib.Core.Path.{◌≡◌}
use lib.IntN.{pos}
use lib.ListN.{drop}
use lib.Signed.{lt_z}
use Rattle.laws.proofs.Filled.{filled}
use Rattle.numbers.specs.ScriptNum.{serialize}
use Rattle.numbers.proofs.Coded.{bit}
use Rattle.numbers.proofs.Left.{Left}
use Rattle.numbers.proofs.write.put.Given as goal

abbrev pub invariant-loop-b : goal.invariant-loop-b
invariant-loop-b l =
    Left (bit (lt_z l.n (pos 0))) l.rest (drop l.b-index (serialize l.n)) × (l.b-items ≡ filled (serialize l.n) l.b-index l.initial.b-items)
