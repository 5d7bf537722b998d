-- `counts::count` meets its contract. The loop's invariant: Core's loop, from the cursor on with what is counted and the opcode read last, gives
-- Core's count; at most 20 are counted for each byte passed. The measure is what is left of the script. Assumes nothing.
use mathlib.Core.Path.{◌≡◌, ap, ◌∙◌}
use mathlib.Core.Bool.{Bool, false}
use mathlib.Core.List.{List}
use Prim.Native.Nat.{ℕ}
use native.Mathlib.Omega.{arith}
use borrow.Author.Tests.{lt-ltb, le-ltb}
use Rattle.laws.specs.Said.{answers}
use Rattle.std.specs.Prelude.{Ok}
use Rattle.std.proofs.lemmas.Result.{err_from_is_err_and}
use Rattle.walk.proofs.Turn.{finds, moves_at, says_at, good_at}
use Rattle.counts.specs.Count.{count_says, get_sig_op_count}
use Rattle.counts.proofs.Turns.{begins, stops, after_opcode, after_push, end_fails, refused_fails}
use Rattle.counts.proofs.count.Goals as goal
use Rattle.counts.proofs.count.Goals.{After-next-stepped}

-- after a call
module _ (d : After-next-stepped) where
  abbrev acc : Bool
  acc = d.args.accurate

  abbrev s : List ℕ
  s = d.args.script.now

  -- the walk gives no more
  ends : d.loop-found.n ≡ get_sig_op_count acc s → answers d.loop-found.n ≡ count_says acc s
  unfolding count_says
  ends h = simp (le-ltb _ _ d.in_ok-check_limit.ensures.within, h)

pub returns-in_err-check_limit : goal.returns-in_err-check_limit
unfolding count_says
returns-in_err-check_limit c =
    let r = err_from_is_err_and c.from_residual.result c.from_residual.ensures.1 in
    let over = c.in_err-check_limit.ensures.over in
    rw (r.1, r.2, over.0, lt-ltb _ _ over.1)

pub loop-found-init : goal.loop-found-init
loop-found-init c = (omega arith, omega arith, rw c.new-c.ensures (begins _ _))

pub returns-in-None : goal.returns-in-None
returns-in-None c =
    let k = (goal.at.returns-in-None c).After-next-stepped in
    let g = good_at false (s k) _ c.next-stepped.ensures (c.in-Ok.is ∙ ap Ok c.in-None.is) in
    ends k (stops _ _ c.loop-found.invariant.2 (end_fails _ _ (omega arith)))

pub loop-found-smaller-in-Some-Opcode : goal.loop-found-smaller-in-Some-Opcode
loop-found-smaller-in-Some-Opcode c = omega (arith, moves_at _ _ _ c.next-stepped.ensures (finds c.in-Ok.is c.in-Some-Opcode.is (rw c.in-Some-Opcode.is at c.in-Some-Opcode.field-0-is)))

pub loop-found-preserved-in-Some-Opcode : goal.loop-found-preserved-in-Some-Opcode
loop-found-preserved-in-Some-Opcode c =
    let k = (goal.at.loop-found-preserved-in-Some-Opcode c).After-next-stepped in
    let is = (finds c.in-Ok.is c.in-Some-Opcode.is (rw c.in-Some-Opcode.is at c.in-Some-Opcode.field-0-is)) in
    let m = moves_at false (s k) _ c.next-stepped.ensures is in (
      m.within,
      omega (arith, c.sigops_of-n.ensures.1, m.on),
      rw c.sigops_of-n.ensures.0
          (after_opcode (acc k) (s k) c.loop-found.invariant.2 c.next-stepped.ensures.1 (says_at false (s k) _ c.next-stepped.ensures is)),
    )

pub bounds-script-at : goal.bounds-script-at
bounds-script-at c = let m = moves_at _ _ _ c.next-stepped.ensures (finds c.in-Ok.is c.in-Some-Push.is (rw c.in-Some-Push.is at c.in-Some-Push.field-0-is)) in omega (arith, m.on, m.within)

pub loop-found-smaller : goal.loop-found-smaller
loop-found-smaller c = omega (arith, moves_at _ _ _ c.next-stepped.ensures (finds c.in-Ok.is c.in-Some-Push.is (rw c.in-Some-Push.is at c.in-Some-Push.field-0-is)))

pub loop-found-preserved : goal.loop-found-preserved
loop-found-preserved c =
    let k = (goal.at.loop-found-preserved c).After-next-stepped in
    let is = (finds c.in-Ok.is c.in-Some-Push.is (rw c.in-Some-Push.is at c.in-Some-Push.field-0-is)) in
    let m = moves_at false (s k) _ c.next-stepped.ensures is in
    (m.within, omega (arith, m.on), after_push (acc k) (s k) c.loop-found.invariant.2 c.next-stepped.ensures.1 (says_at false (s k) _ c.next-stepped.ensures is))

pub returns-in_default : goal.returns-in_default
returns-in_default c =
    let k = (goal.at.returns-in_default c).After-next-stepped in
    ends k (stops _ _ c.loop-found.invariant.2 (refused_fails _ _ c.in_ok-check_limit.ensures.within c.loop-found.invariant.0 (says_at false (s k) _ c.next-stepped.ensures c.in_default.is)))
