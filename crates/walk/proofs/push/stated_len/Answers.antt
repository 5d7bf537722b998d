-- `walk::push::stated_len` meets its contract: the test on k picks the case of `stated`. Assumes nothing.
use borrow.Author.Tests.{eq-eqb, ne_eqb}
use Rattle.script.specs.Steps.{stated}
use Rattle.walk.proofs.push.stated_len.Goals as goal

pub returns-then-k-eq0 : goal.returns-then-k-eq0
unfolding stated
returns-then-k-eq0 c = rw (eq-eqb _ _ c.if-k-eq0.true) c.from.ensures

pub returns-else-k-eq0 : goal.returns-else-k-eq0
unfolding stated
returns-else-k-eq0 c = simp (ne_eqb _ _ c.if-k-eq0.false) c.read_le.ensures
