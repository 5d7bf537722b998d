-- `places::count` meets its contract. The loop's invariant: what is counted, with what is still to come, is all that the walk gives, and the
-- walk from here on ends as the whole one does. The measure is what is left of the script. Assumes nothing.
use mathlib.Core.Path.{◌≡◌, refl, sym, ap, ◌∙◌}
use mathlib.Core.Bool.{Bool}
use mathlib.Core.List.{List}
use Prim.Native.Nat.{ℕ, ◌+◌, ◌≤◌, ◌<◌}
use native.Mathlib.Omega.{arith}
use lib.ListN.{length, get_or}
use Rattle.laws.specs.Said.{Said, answers, unless}
use Rattle.std.proofs.lemmas.Result.{err_from_is_err_and}
use Rattle.walk.specs.Answer.{is_minimal}
use Rattle.script.specs.Walk.{Walked, walk_says}
use Rattle.script.specs.Run.{walk_from, items, ending}
use Rattle.places.specs.Places.{place_count_says}
use Rattle.places.proofs.Places.{counted}
use Rattle.script.proofs.Sized.{stands_fits, turn_sized, stops, size_told, size_refused}
use Rattle.places.proofs.count.Goals as goal
use Rattle.places.proofs.count.Goals.{After-whole_size-size}

-- where the size is known
module _ (d : After-whole_size-size) where
  abbrev m : Bool
  m = is_minimal d.args.mode

  abbrev s : List ℕ
  s = d.args.script.now

  abbrev p : ℕ
  p = d.loop-mode.at

  abbrev n : ℕ
  n = d.loop-mode.n

  abbrev size : ℕ
  size = d.whole_size-size.result

  bytes : (i : ℕ) → get_or s i 0 < 256
  bytes i = omega (arith, d.type_inv.script i)

  -- an instruction stands there
  module _ (some : 0 < size) where
    ends_at : p + size ≤ length s
    ends_at = stands_fits m s p bytes size d.whole_size-size.ensures some

    again : (p + size ≤ length s) × (n + 1 ≤ p + size) × (n + 1 + length (items (walk_from m s (p + size))) ≡ length (items (walk_from m s 0)))
        × (ending (walk_from m s (p + size)) ≡ ending (walk_from m s 0))
    again =
        let i = d.loop-mode.invariant in
        let t = turn_sized m s p bytes size d.whole_size-size.ensures some in
        (ends_at, omega arith, omega (arith, ap (λ r. length (items r)) t), sym (ap ending t) ∙ i.3)

  -- the walk stops there
  ends : {a : Said Walked} → size ≡ 0 → walk_says m s p ≡ a → place_count_says m s ≡ unless a (answers n)
  ends z e =
      let i = d.loop-mode.invariant in
      let t = stops m s p (sym d.whole_size-size.ensures ∙ z) in
      counted m s (omega (arith, ap (λ r. length (items r)) t), sym i.3 ∙ ap ending t ∙ e)

pub returns-in_err-size : goal.returns-in_err-size
returns-in_err-size c =
    let k = (goal.at.returns-in_err-size c).After-whole_size-size in
    let r = err_from_is_err_and c.from_residual.result c.from_residual.ensures.1 in
    rw (r.1, r.2) (sym (ends k c.if-size-eq0.true (size_refused (m k) (s k) (p k) c.in_err-size.ensures)))

pub returns-then-size-eq0 : goal.returns-then-size-eq0
returns-then-size-eq0 c =
    let k = (goal.at.returns-then-size-eq0 c).After-whole_size-size in
    sym (ends k c.if-size-eq0.true refl ∙ size_told (m k) (s k) (p k) (answers (n k)) c.in_ok-size.ensures)

pub overflow_add-at : goal.overflow_add-at
overflow_add-at c =
    let d = (goal.at.overflow_add-at c).After-whole_size-size in
    let some : 0 < size d = omega arith in
    omega (arith, ends_at d some)

pub loop-mode-smaller : goal.loop-mode-smaller
loop-mode-smaller c =
    let d = (goal.at.loop-mode-smaller c).After-whole_size-size in
    let some : 0 < size d = omega arith in
    omega (arith, ends_at d some, some)

pub loop-mode-preserved : goal.loop-mode-preserved
loop-mode-preserved c =
    let d = (goal.at.loop-mode-preserved c).After-whole_size-size in
    let some : 0 < size d = omega arith in
    again d some
