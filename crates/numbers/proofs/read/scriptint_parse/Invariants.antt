-- `numbers::read::scriptint_parse` meets its contract. The loop's invariant: the bytes that are left to read stand at the front of v, and m is
-- the magnitude of those behind them. Assumes nothing.
use mathlib.Core.Path.{◌≡◌}
use mathlib.Core.List.{◌++◌}
use Prim.Native.Nat.{◌<◌}
use lib.ListN.{length, drop}
use Rattle.numbers.proofs.Reading.{magnitude_of}
use Rattle.numbers.proofs.read.scriptint_parse.Given as goal

abbrev pub invariant-loop-b : goal.invariant-loop-b
invariant-loop-b l =
    let left = l.b-iterator.iter.rest.now in
    (l.m ≡ magnitude_of (drop (length left) l.v)) × (length left < length l.v) × (left ++ drop (length left) l.v ≡ l.v)
