-- `layout::choose::last_opcode` meets its contract. The loop's invariant: what the walk from here on makes of `last` is what the whole walk makes of
-- nothing. The measure is what is left of the script. Assumes nothing.
use mathlib.Core.Path.{◌≡◌}
use mathlib.Core.Bool.{false}
use Rattle.std.specs.Prelude.{Option, None}
use Prim.Native.Nat.{ℕ, ◌-◌, ◌≤◌}
use lib.ListN.{length}
use Rattle.laws.specs.Said.{Said}
use Rattle.script.specs.Walk.{Walked}
use Rattle.script.specs.Run.{Run, walk_from, fold}
use Rattle.building.specs.Builder.{opcode_in}
use Rattle.layout.proofs.choose.last_opcode.Given as goal

-- the walk from p on, with this to start from
abbrev last_of : Option ℕ → Run → Option ℕ × Said Walked
last_of = fold (λ (last : Option ℕ) w. opcode_in w)

abbrev pub invariant-loop-last : goal.invariant-loop-last
invariant-loop-last l =
    (l.c.at ≤ length l.script) × (last_of l.last (walk_from false l.script l.c.at) ≡ last_of None (walk_from false l.script 0))

abbrev pub decreases-loop-last : goal.decreases-loop-last
decreases-loop-last l = length l.script - l.c.at
