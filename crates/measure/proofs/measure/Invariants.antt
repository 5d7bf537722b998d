-- `measure::measure` meets its contract. The outer invariant: what is measured, with the text from here on, is as long as the whole text; its
-- measure is what is left of the script. The inner one: the length bytes behind i are read. Assumes nothing.
use mathlib.Core.Path.{◌≡◌}
use Prim.Native.Nat.{◌-◌}
use lib.ListN.{length}
use Rattle.asm.proofs.LengthStep.{Stated}
use Rattle.measure.proofs.Measured.{Measured}
use Rattle.measure.proofs.measure.Given as goal

abbrev pub invariant-loop-i : goal.invariant-loop-i
invariant-loop-i l = Stated l.script l.at l.k l.stated l.i × (l.n ≡ l.initial.n)

abbrev pub invariant-script : goal.invariant-script
invariant-script l = Measured l.script l.n l.at

abbrev pub decreases-script : goal.decreases-script
decreases-script l = length l.script - l.at
