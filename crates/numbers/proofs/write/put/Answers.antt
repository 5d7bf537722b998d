-- `numbers::write::put` meets its contract. The loop's invariant: the bytes before the index are written, and `rest` stands for those from it on.
-- Assumes nothing.
use mathlib.Core.Path.{◌≡◌, refl, sym, ap, ◌∙◌}
use mathlib.Core.List.{List, [], ◌∷◌, ◌++◌}
use Prim.Native.Nat.{ℕ, ◌+◌, ◌<◌, ◌≤◌}
use native.Mathlib.Omega.{arith}
use lib.IntN.{ℤ, pos, nat_abs}
use lib.ListN.{length, get_or, drop_of_length-le}
use lib.Seq.{take_all}
use lib.Signed.{lt_z}
use mir.Syntax.{w64}
use mir.Val.{to_z, of_z}
use mir.Facts.{to_z-of_z}
use Rattle.std.proofs.lemmas.List.{append-nil, nil_from_length, length_push, take_more}
use Rattle.laws.proofs.Filled.{filled, fill_put}
use Rattle.numbers.specs.ScriptNum.{serialize}
use Rattle.numbers.proofs.Coded.{bit, closed_coded}
use Rattle.numbers.proofs.Written.{serialize_bytes, serialize_closes, serialize_some}
use Rattle.numbers.proofs.Left.{Left, left, turn, end}
use Rattle.numbers.proofs.write.put.Goals as goal
use Rattle.numbers.proofs.write.put.Goals.{In-Some, After-loop-b}

started : (n : ℤ) → 0 < length (serialize n) → Left (bit (lt_z n (pos 0))) (nat_abs n) (serialize n)
started n h = let p = serialize_some n h in rw (serialize_closes n p) (left (closed_coded (lt_z n (pos 0)) (nat_abs n) p))

filled_last : (w old : List ℕ) (i x : ℕ) → i ≡ length old → i + 1 ≡ length w → x ≡ get_or w i 0 → filled w i old ++ x ∷ [] ≡ w
filled_last w old i x h k e =
    let l : length old ≤ i = omega arith in
    rw (e, drop_of_length-le old l, append-nil) (sym (take_more w i 0 (omega arith)) ∙ take_all (i + 1) w (omega arith))

abbrev held : ℤ → ℤ
held n = to_z w64 (of_z w64 n)

-- low is one byte shorter than what is written
one_more : (s : In-Some) → length s.in-Some.low.now + 1 ≡ length (serialize (held s.args.n))
one_more s = rw (to_z-of_z s.ranges.n) (sym (length_push s.in-Some.low.now s.in-Some.last.now) ∙ sym (ap length s.in-Some.ensures.cases.0) ∙ s.requires.1)

module _ (s : After-loop-b) (m : length s.in-Some.low.now + 1 ≡ length (serialize (held s.args.n))) where
  ended : (s.loop-b.b-index + 1 ≡ length (serialize (held s.args.n))) × (s.loop-b.rest < 128) × (get_or (serialize (held s.args.n)) s.loop-b.b-index 0 ≡ s.loop-b.rest + bit (lt_z (held s.args.n) (pos 0)))
  ended =
      let i : s.loop-b.b-index + 1 ≡ length (serialize (held s.args.n)) = omega (arith, m) in
      let e = end (serialize (held s.args.n)) s.loop-b.b-index s.loop-b.invariant.0 i in
      (i, e.0, e.1)

pub returns-in_default : goal.returns-in_default
returns-in_default c =
    let z = c.in_default.ensures.cases in
    nil_from_length _ z ∙ sym (nil_from_length (serialize c.args.n) (sym c.requires.1 ∙ z))

pub loop-b-init : goal.loop-b-init
loop-b-init c =
    let m = one_more (goal.at.loop-b-init c).In-Some in
    (rw c.unsigned_abs-rest.ensures.value (started (held c.args.n) (omega (arith, m))), refl)

pub loop-b-preserved : goal.loop-b-preserved
loop-b-preserved c =
    let m = one_more (goal.at.loop-b-preserved c).In-Some in
    let l = c.loop-b in
    let t = turn (serialize (held c.args.n)) l.b-index l.invariant.0 (omega (arith, m)) in
    (t.1, rw l.invariant.1 (fill_put _ _ _ _ (omega (arith, m)) c.loop-b-test.true (sym t.0)))

pub overflow_cast-last : goal.overflow_cast-last
overflow_cast-last c =
    let s = goal.at.overflow_cast-last c in
    omega (arith, (ended s.After-loop-b (one_more s.In-Some)).1)

pub overflow_add-last : goal.overflow_add-last
overflow_add-last c =
    let s = goal.at.overflow_add-last c in
    omega (arith, (ended s.After-loop-b (one_more s.In-Some)).2, serialize_bytes (held c.args.n) c.loop-b.b-index, c.sign_bit.ensures)

pub returns : goal.returns
returns c =
    let s = goal.at.returns c in
    let e = ended s.After-loop-b (one_more s.In-Some) in
    rw (c.loop-b.invariant.1, c.sign_bit.ensures) (filled_last (serialize (held c.args.n)) c.in-Some.low.now c.loop-b.b-index _ (omega (arith, e.0, one_more s.In-Some)) e.0 (sym e.2) ∙ ap serialize (to_z-of_z c.ranges.n))
