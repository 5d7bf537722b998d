-- `layout::choose::last_opcode` meets its contract. The loop's invariant: what the walk from here on makes of `last` is what the whole walk makes of
-- nothing. The measure is what is left of the script. Assumes nothing.
use mathlib.Core.Path.{◌≡◌, sym, ap, ◌∙◌}
use mathlib.Core.Bool.{false}
use mathlib.Core.List.{List}
use Rattle.std.specs.Prelude.{Option, None, Ok}
use Prim.Native.Nat.{ℕ}
use native.Mathlib.Omega.{arith}
use Rattle.laws.specs.Said.{Said}
use Rattle.script.specs.Walk.{Walked}
use Rattle.script.specs.Run.{Run, stop, walk_from, fold}
use Rattle.walk.proofs.Turn.{finds, turn_at, moves_at}
use Rattle.building.specs.Builder.{opcode_in, unless_refused, last_if_opcode}
use Rattle.layout.proofs.choose.last_opcode.Goals as goal
use Rattle.layout.proofs.choose.last_opcode.Goals.{After-next-stepped}

-- the walk from p on, with this to start from
abbrev last_of : Option ℕ → Run → Option ℕ × Said Walked
last_of = fold (λ (last : Option ℕ) w. opcode_in w)

-- after a call
module _ (d : After-next-stepped) where
  abbrev s : List ℕ
  s = d.args.script.now

  abbrev now-last : Option ℕ
  now-last = d.loop-last.last

  -- it gave the walk's next part
  step : {run : Run} → walk_from false s d.loop-last.c.at ≡ run → last_of now-last run ≡ last_of None (walk_from false s 0)
  step t = sym (ap (last_of now-last) t) ∙ d.loop-last.invariant.1

  ends : {a : Said Walked} → walk_from false s d.loop-last.c.at ≡ stop a → unless_refused (now-last, a) ≡ last_if_opcode s
  unfolding last_if_opcode
  ends t = ap unless_refused (step t)

pub returns-in-Err : goal.returns-in-Err
returns-in-Err c =
    let k = (goal.at.returns-in-Err c).After-next-stepped in
    ends k (turn_at _ _ _ c.next-stepped.ensures c.in-Err.is)

pub returns-in-Ok-None : goal.returns-in-Ok-None
returns-in-Ok-None c =
    let k = (goal.at.returns-in-Ok-None c).After-next-stepped in
    let a = c.in-Ok-None in
    ends k (turn_at _ _ _ c.next-stepped.ensures (a.is ∙ ap Ok (rw a.is at a.field-0-is)))

pub loop-last-smaller-in-Ok-Some-Opcode : goal.loop-last-smaller-in-Ok-Some-Opcode
loop-last-smaller-in-Ok-Some-Opcode c =
    let a = c.in-Ok-Some-Opcode in
    let q = rw a.is at a.field-0-is in
    omega (arith, moves_at _ _ _ c.next-stepped.ensures (finds a.is q (rw (a.is, q) at a.field-0-0-is)))

pub loop-last-preserved-in-Ok-Some-Opcode : goal.loop-last-preserved-in-Ok-Some-Opcode
loop-last-preserved-in-Ok-Some-Opcode c =
    let k = (goal.at.loop-last-preserved-in-Ok-Some-Opcode c).After-next-stepped in
    let a = c.in-Ok-Some-Opcode in
    let e = let q = rw a.is at a.field-0-is in finds a.is q (rw (a.is, q) at a.field-0-0-is) in
    ((moves_at _ _ _ c.next-stepped.ensures e).within, step k (turn_at _ _ _ c.next-stepped.ensures e))

pub loop-last-smaller : goal.loop-last-smaller
loop-last-smaller c =
    let a = c.in-Ok-Some-Push in
    let q = rw a.is at a.field-0-is in
    omega (arith, moves_at _ _ _ c.next-stepped.ensures (finds a.is q (rw (a.is, q) at a.field-0-0-is)))

pub loop-last-preserved : goal.loop-last-preserved
loop-last-preserved c =
    let k = (goal.at.loop-last-preserved c).After-next-stepped in
    let a = c.in-Ok-Some-Push in
    let e = let q = rw a.is at a.field-0-is in finds a.is q (rw (a.is, q) at a.field-0-0-is) in
    ((moves_at _ _ _ c.next-stepped.ensures e).within, step k (turn_at _ _ _ c.next-stepped.ensures e))
