-- `text::write_text` meets its contract. The outer invariant: what is left of the text, stored from n on, gives the buffer at the end; its
-- measure is what is left of the script. The inner one: the length bytes behind i are read. Assumes nothing.
use mathlib.Core.Path.{◌≡◌}
use Prim.Native.Nat.{◌-◌, ◌≤◌}
use lib.ListN.{length}
use Rattle.asm.specs.Asm.{text_from, text_of}
use Rattle.text.proofs.Stored.{Left}
use Rattle.asm.proofs.LengthStep.{Stated}
use Rattle.text.proofs.write_text.Given as goal

abbrev pub invariant-loop-i : goal.invariant-loop-i
invariant-loop-i l = Stated l.script l.at l.k l.stated l.i × (l.out ≡ l.initial.out)

abbrev pub invariant-script : goal.invariant-script
invariant-script l = (l.at ≤ length l.script) × Left (text_of l.script) l.initial.out l.n l.out (text_from l.script l.at)

abbrev pub decreases-script : goal.decreases-script
decreases-script l = length l.script - l.at
