-- `walk::push::is_too_short` meets its contract: mode and form pick the case of `too_short`. Assumes nothing.
use borrow.Author.Tests.{eq-eqb, ne_eqb}
use Rattle.script.specs.Steps.{too_short}
use Rattle.walk.proofs.push.is_too_short.Goals as goal

pub returns-in-Plain : goal.returns-in-Plain
unfolding too_short
returns-in-Plain c = rw c.in-Plain.is

pub returns-then-len-eq1 : goal.returns-then-len-eq1
unfolding too_short
returns-then-len-eq1 c =
    rw (c.in-Minimal.is, c.in-Direct.is, eq-eqb _ _ c.if-len-eq1.true) c.is_number.ensures

pub returns-else-len-eq1 : goal.returns-else-len-eq1
unfolding too_short
returns-else-len-eq1 c =
    rw (c.in-Minimal.is, c.in-Direct.is, ne_eqb _ _ c.if-len-eq1.false)

pub returns-in-PushData1 : goal.returns-in-PushData1
unfolding too_short
returns-in-PushData1 c = rw (c.in-Minimal.is, c.in-PushData1.is)

pub returns-in-PushData2 : goal.returns-in-PushData2
unfolding too_short
returns-in-PushData2 c = rw (c.in-Minimal.is, c.in-PushData2.is)

pub returns-in-PushData4 : goal.returns-in-PushData4
unfolding too_short
returns-in-PushData4 c = rw (c.in-Minimal.is, c.in-PushData4.is)
