-- `places::write_places` meets its contract. The loop's invariant: the table as it is, with the places from here on stored from i on, is the
-- table at the end, and there is room for them. Assumes nothing.
use mathlib.Core.Path.{◌≡◌, refl, sym, ap, ◌∙◌}
use mathlib.Core.Bool.{Bool}
use mathlib.Core.List.{List, ◌∷◌, map}
use Prim.Native.Nat.{ℕ, suc, ◌+◌, ◌≤◌, ◌<◌}
use native.Mathlib.Numerals.{add-one}
use native.Mathlib.Omega.{arith}
use lib.ListN.{length, set, get_or, length-set}
use lib.Seq.{sets}
use Rattle.opcodes.specs.Opcode.{sort_of}
use Rattle.walk.specs.Answer.{is_minimal}
use Rattle.script.specs.Run.{Run, walk_from, items}
use Rattle.script.specs.Walk.{place_of}
use Rattle.places.specs.Places.{places_of}
use Rattle.script.proofs.Sized.{within_limit_lem, stands_fits, turn_sized, stops}
use Rattle.places.proofs.Places.{place_is}
use Rattle.std.proofs.lemmas.List.{set-get_or, nil_from_length}
use Rattle.places.proofs.write_places.Goals as goal
use Rattle.places.proofs.write_places.Goals.{After-whole_size-size}

-- the places from p on
abbrev from : Bool → List ℕ → ℕ → List ℕ
from minimal s p = map place_of (items (walk_from minimal s p))

-- where the size is known
module _ (d : After-whole_size-size) where
  abbrev m : Bool
  m = is_minimal d.args.mode

  abbrev s : List ℕ
  s = d.args.script.now

  abbrev p : ℕ
  p = d.loop-entry.at

  abbrev table : List ℕ
  table = d.loop-entry.entry-items

  abbrev i : ℕ
  i = d.loop-entry.entry-index

  abbrev size : ℕ
  size = d.whole_size-size.result

  bytes : (k : ℕ) → get_or s k 0 < 256
  bytes k = omega (arith, d.type_inv.script k)

  -- an instruction stands there
  module _ (some : 0 < size) where
    ends_at : p + size ≤ length s
    ends_at = stands_fits m s p bytes size d.whole_size-size.ensures some

    small : length s ≤ 4194304
    small = within_limit_lem m s p bytes size d.whole_size-size.ensures some

    -- its place comes first
    goes_on : from m s p ≡ p ∷ from m s (p + size)
    goes_on =
        ap (λ (r : Run). map place_of (items r)) (turn_sized m s p bytes size d.whole_size-size.ensures some)
        ∙ ap (λ place. place ∷ from m s (p + size)) (place_is (sort_of (get_or s p 0)) p _ _)

    room : i + suc (length (from m s (p + size))) ≤ length table
    room = omega (arith, ap length goes_on)

    again : (p + size ≤ length s) × (i + 1 + length (from m s (p + size)) ≤ length (set table i p))
        × (sets (set table i p) (i + 1) (from m s (p + size)) ≡ sets d.args.table.now 0 (from m s 0))
    again =
        let v = d.loop-entry.invariant in
        (ends_at, simp length-set (omega (arith, room)), rw add-one (sym (ap (sets table i) goes_on) ∙ v.2))

  -- the walk stops there
  ends : size ≡ 0 → table ≡ sets d.args.table.now 0 (places_of m s)
  unfolding places_of
  ends z =
      sym (ap (λ (r : Run). sets table i (map place_of (items r))) (stops m s p (sym d.whole_size-size.ensures ∙ z))) ∙ d.loop-entry.invariant.2

pub loop-entry-init : goal.loop-entry-init
unfolding places_of
loop-entry-init c = (omega arith, omega (arith, c.requires), refl)

pub returns-then-size-eq0 : goal.returns-then-size-eq0
returns-then-size-eq0 c =
    let d = (goal.at.returns-then-size-eq0 c).After-whole_size-size in
    set-get_or (table d) (i d) 0 ∙ ends d c.if-size-eq0.true

pub overflow_cast-entry : goal.overflow_cast-entry
overflow_cast-entry c =
    let d = (goal.at.overflow_cast-entry c).After-whole_size-size in
    let some : 0 < size d = omega arith in
    omega (arith, ends_at d some, small d some)

pub overflow_add-at : goal.overflow_add-at
overflow_add-at c =
    let d = (goal.at.overflow_add-at c).After-whole_size-size in
    let some : 0 < size d = omega arith in
    omega (arith, ends_at d some)

pub loop-entry-preserved : goal.loop-entry-preserved
loop-entry-preserved c =
    let d = (goal.at.loop-entry-preserved c).After-whole_size-size in
    let some : 0 < size d = omega arith in
    again d some

pub returns : goal.returns
unfolding places_of
returns c =
    let h = c.loop-entry.invariant in
    let z : length (from (is_minimal c.args.mode) c.args.script.now c.loop-entry.at) ≡ 0 = omega arith in
    rw (nil_from_length _ z) at h.2
