-- `walk::push::is_number` meets its contract: the tests that led to each answer pick the case of `is_number`. Assumes nothing.
use native.Mathlib.Omega.{arith}
use lib.ListN.{get_or}
use borrow.Author.Tests.{lt-ltb, le-ltb, eq-eqb, ne_eqb}
use Rattle.script.specs.Steps.{is_number}
use Rattle.walk.proofs.push.is_number.Goals as goal

pub returns-in-129 : goal.returns-in-129
unfolding is_number
returns-in-129 c = simp (lt-ltb _ _ c.if-p-s.true, eq-eqb _ _ c.in-129.is)

pub returns-in-1-to-16 : goal.returns-in-1-to-16
unfolding is_number
returns-in-1-to-16 c = simp (lt-ltb _ _ c.if-p-s.true, ne_eqb (get_or c.args.s.now c.args.p 0) 129 (omega arith), le-ltb (get_or c.args.s.now c.args.p 0) 1 (omega arith), lt-ltb (get_or c.args.s.now c.args.p 0) 17 (omega arith))

pub returns-in_default : goal.returns-in_default
unfolding is_number
returns-in_default c = simp (lt-ltb _ _ c.if-p-s.true, ne_eqb (get_or c.args.s.now c.args.p 0) 129 (omega arith), lt-ltb (get_or c.args.s.now c.args.p 0) 1 (omega arith))

pub returns-in_default-2 : goal.returns-in_default-2
unfolding is_number
returns-in_default-2 c = simp (lt-ltb _ _ c.if-p-s.true, ne_eqb (get_or c.args.s.now c.args.p 0) 129 (omega arith), le-ltb (get_or c.args.s.now c.args.p 0) 1 (omega arith), le-ltb (get_or c.args.s.now c.args.p 0) 17 (omega arith))

pub returns-else-p-s : goal.returns-else-p-s
unfolding is_number
returns-else-p-s c = simp (le-ltb _ _ c.if-p-s.false)
