-- `places::write_places` meets its contract. The loop's invariant: the table as it is, with the places from here on stored from i on, is the
-- table at the end, and there is room for them. Assumes nothing.
use mathlib.Core.Path.{◌≡◌}
use mathlib.Core.Bool.{Bool}
use mathlib.Core.List.{List, map}
use Prim.Native.Nat.{ℕ, ◌+◌, ◌≤◌}
use lib.ListN.{length}
use lib.Seq.{sets}
use Rattle.walk.specs.Answer.{is_minimal}
use Rattle.script.specs.Run.{walk_from, items}
use Rattle.script.specs.Walk.{place_of}
use Rattle.places.proofs.write_places.Given as goal

-- the places from p on
abbrev from : Bool → List ℕ → ℕ → List ℕ
from minimal s p = map place_of (items (walk_from minimal s p))

abbrev pub invariant-loop-entry : goal.invariant-loop-entry
invariant-loop-entry l =
    (l.at ≤ length l.script) × (l.entry-index + length (from (is_minimal l.mode) l.script l.at) ≤ length l.entry-items)
    × (sets l.entry-items l.entry-index (from (is_minimal l.mode) l.script l.at) ≡ sets l.initial.entry-items 0 (from (is_minimal l.mode) l.script 0))
