-- `shown::read_in` meets its contract: each read lies behind those before it. Assumes nothing.
use mathlib.Core.Path.{ap, ◌∙◌}
use mathlib.Core.List.{◌++◌}
use native.Mathlib.Omega.{arith}
use lib.ListN.{take, drop, length-drop}
use lib.Seq.{take-add}
use Rattle.shown.proofs.Reading.{then}
use Rattle.shown.proofs.read_in.Goals as goal

pub loop-done-preserved : goal.loop-done-preserved
loop-done-preserved g c =
    let i = c.loop-done.invariant in
    let read = c.in_ok-more.ensures in
    let n = c.loop-done.done in
    let more = c.in_ok-more.more in
    let buf = c.read_on.new.buf in (
      c.read_on.auto.buf ∙ i.0,
      omega (arith, read.bound.0, length-drop n buf, c.read_on.auto.buf, i.1),
      then _ _ _ _ _ _ i.2 read.bytes.0 (take-add n more buf ∙ ap (λ l. l ++ take more (drop n buf)) read.kept),
    )
