-- 'For one whole script, start positions go into a lent table of 32-bit numbers'. Assumes nothing.
use Rattle.std.specs.Prelude.{Bool, List, map, ℕ, length}
use Rattle.laws.specs.Said.{Said, answers, unless}
use Rattle.laws.specs.Buffer.{writes}
use Rattle.script.specs.Walk.{place_of}
use Rattle.script.specs.Run.{walk_from, items, ending}

-- the places of all instructions of a script
unfoldable pub places_of : Bool → List ℕ → List ℕ
places_of minimal s = map place_of (items (walk_from minimal s 0))

-- all, with their count as the answer, or refusal 1, 2, 14, 15 or 7
unfoldable pub positions_say : Bool → List ℕ → ℕ → Said ℕ
positions_say minimal s room = unless (ending (walk_from minimal s 0)) (writes (places_of minimal s) room)

-- how many there are
unfoldable pub place_count_says : Bool → List ℕ → Said ℕ
place_count_says minimal s = unless (ending (walk_from minimal s 0)) (answers (length (places_of minimal s)))
