-- `numbers::read::cast_to_bool` meets its contract: the bytes before the last are searched for one that is not 0. Assumes nothing.
use mathlib.Core.Path.{◌≡◌}
use Prim.Native.Nat.{◌-◌}
use native.Mathlib.Omega.{arith}
use borrow.Author.Tests.{eq-eqb, ne_eqb}
use lib.ListN.{length, take}
use Rattle.std.proofs.Common.{rules, tests}
use Rattle.std.proofs.lemmas.Iterator.{YieldsList-from_slice}
use Rattle.std.proofs.lemmas.Iterator.Search.{any_from_yields_List}
use Rattle.std.specs.List.{list_any}
use Rattle.numbers.specs.ScriptNum.{back}
use Rattle.numbers.proofs.First.{is_set, by_last}
use Rattle.numbers.proofs.read.cast_to_bool.Goals as goal
use Rattle.numbers.proofs.read.cast_to_bool.Goals.{After-any}

searched : (c : After-any) → c.any.result ≡ list_any is_set (take (length c.args.v.now - 1) c.args.v.now)
searched c = any_from_yields_List is_set _ _ c.any.result c.any.ensures.ran (YieldsList-from_slice (take (length c.args.v.now - 1) c.args.v.now) cc) (λ x b q k. search (rules, tests))

pub returns-then-any : goal.returns-then-any
returns-then-any c =
    let a = searched (goal.at.returns-then-any c).After-any in
    rw (by_last c.args.v.now (omega arith), ← a, c.if-any.true)

pub returns-then-last-ne0 : goal.returns-then-last-ne0
returns-then-last-ne0 c =
    let v = c.args.v.now in
    let a = searched (goal.at.returns-then-last-ne0 c).After-any in
    rw (by_last v (omega arith), ← a, c.if-any.false, ne_eqb (back v) 0 (omega arith))

pub returns-else-last-ne0 : goal.returns-else-last-ne0
returns-else-last-ne0 c =
    let v = c.args.v.now in
    let a = searched (goal.at.returns-else-last-ne0 c).After-any in
    rw (by_last v (omega arith), ← a, c.if-any.false, eq-eqb (back v) 0 (omega arith))
