-- The count of a walk's instructions and the places that go into the table. Assumes nothing.
use mathlib.Core.Path.{◌≡◌, refl, ap, ◌∙◌}
use mathlib.Core.Bool.{Bool}
use mathlib.Core.List.{List, [], ◌∷◌, map}
use Prim.Native.Nat.{ℕ, suc, ◌+◌, ◌≤◌}
use native.Mathlib.Nat.{zero-add}
use native.Mathlib.Omega.{arith}
use borrow.Author.Tests.{le-leb}
use lib.ListN.{length}
use lib.Seq.{sets, sets-eq}
use Rattle.laws.specs.Said.{Said, answers, refuses, unless}
use Rattle.opcodes.specs.Opcode.{Sort}
use Rattle.opcodes.specs.Opcode as sort
use Rattle.script.specs.Walk.{Item, Walked, place_of, walked}
use Rattle.script.specs.Run.{walk_from, items, ending}
use Rattle.laws.specs.Buffer.{writes, after}
use Rattle.places.specs.Places.{places_of, place_count_says, positions_say}

-- what stands at a place starts there
pub place_is : (k : Sort) (at code len : ℕ) → place_of (walked k at code len) ≡ at
place_is (sort.push form) at code len = refl
place_is sort.number at code len = refl
place_is sort.plain at code len = refl

length_places : (ws : List Item) → length (map place_of ws) ≡ length ws
length_places [] = refl
length_places (w ∷ ws) = ap suc (length_places ws)

pub counted : (minimal : Bool) (s : List ℕ) {n : ℕ} {a : Said Walked} → (length (items (walk_from minimal s 0)) ≡ n) × (ending (walk_from minimal s 0) ≡ a)
    → place_count_says minimal s ≡ unless a (answers n)
unfolding place_count_says places_of
counted minimal s e = rw (length_places, e.0, e.1)

-- ---- the answer of `positions`, where the walk is not refused and the table has room

module _ (minimal : Bool) (s old : List ℕ) where
  abbrev ps : List ℕ
  ps = places_of minimal s

  abbrev says : Said ℕ
  says = positions_say minimal s (length old)

  module _ {n : ℕ} (e : answers n ≡ place_count_says minimal s) where
    counts : (length ps ≡ n) × (says ≡ writes ps (length old))
    unfolding place_count_says positions_say
    counts = go (ending (walk_from minimal s 0)) e
      where
        go : (a : Said Walked) → answers n ≡ unless a (answers (length ps)) → (length ps ≡ n) × (unless a (writes ps (length old)) ≡ writes ps (length old))
        go (answers w) e = (cc, refl)
        go (refuses number values) e = (cc, cc)

    -- all are written
    pub places_written : {new : List ℕ} → n ≤ length old → new ≡ sets old 0 ps → (answers n ≡ says) × (new ≡ after says ps old)
    places_written h w =
        let k : 0 + length ps ≤ length old = omega (arith, counts.0) in
        rw (counts.1, counts.0, le-leb n (length old) h) (refl, w ∙ sets-eq ps old 0 k ∙ rw (zero-add, counts.0))
