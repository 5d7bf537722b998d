-- Loops over the walk: each turn takes one answer off it. Assumes nothing.
use mathlib.Core.Path.{◌≡◌, refl, sym, ap}
use mathlib.Core.Bool.{Bool}
use mathlib.Core.List.{List}
use Prim.Native.Nat.{ℕ, zero, suc, ◌-◌, ◌≤◌, ◌<◌}
use native.Mathlib.Omega.{arith}
use lib.ListN.{length}
use Rattle.laws.specs.Said.{Said, answers, refuses}
use Rattle.refusal.specs.Refusal.{limit}
use Rattle.script.specs.Walk.{Walked, end, found, opcode, push, place_of, walk_says, moved, next_at}
use Rattle.script.specs.Run.{Run, item, continue, walk_for, walk_from}
use Rattle.script.proofs.Good.{Good, good_answer}

-- an instruction ends further on, within a script that is not too long
pub record Moves (s : List ℕ) (p q place : ℕ) : Type 0 where
  pub here : place ≡ p
  pub on : p < q
  pub within : q ≤ length s
  pub small : length s ≤ limit

abbrev pub Moved : List ℕ → ℕ → ℕ → Said Walked → Type 0
Moved s p q (answers end) = (length s ≡ p) × (length s ≤ limit)
Moved s p q (answers (found i)) = Moves s p q (place_of i)
Moved s p q (refuses number values) = Unit {0}

by_good : (minimal : Bool) (s : List ℕ) (p : ℕ) (a : Said Walked) → Good minimal s p a → Moved s p (moved a s p) a
by_good minimal s p (answers end) g = g
by_good minimal s p (answers (found (opcode place code))) g = record { here = g.here; on = omega arith; within = g.fits; small = g.small }
by_good minimal s p (answers (found (push place form body len))) g =
    record { here = g.here; on = omega arith; within = omega (arith, g.fits, g.starts); small = g.small }
by_good minimal s p (refuses number values) g = tt

-- what a call that answers a and moves to q tells
pub moves : (minimal : Bool) (s : List ℕ) (p : ℕ) {q : ℕ} {a : Said Walked} → a ≡ walk_says minimal s p → q ≡ next_at minimal s p → Moved s p q a
unfolding next_at
moves minimal s p {a = a} e m = rw (m, sym e) (by_good minimal s p a (good_answer minimal s p a (sym e)))

-- the rest matters only where the call gives an instruction
rest_same : (s : List ℕ) (p q : ℕ) (a : Said Walked) (f g : Run) → Moved s p q a → (p < q → q ≤ length s → f ≡ g) → continue a f ≡ continue a g
rest_same s p q (answers end) f g m e = refl
rest_same s p q (answers (found i)) f g m e = ap (item i) (e m.on m.within)
rest_same s p q (refuses number values) f g m e = refl

enough : (minimal : Bool) (s : List ℕ) (n k p : ℕ) → length s - p < n → length s - p < k → walk_for n minimal s p ≡ walk_for k minimal s p
unfolding walk_for
enough minimal s zero k p a b = absurd (omega arith)
enough minimal s (suc n) zero p a b = absurd (omega arith)
enough minimal s (suc n) (suc k) p a b =
    let q = next_at minimal s p in
    rest_same s p q (walk_says minimal s p) _ _ (moves minimal s p refl refl) (λ l h. enough minimal s n k q (omega arith) (omega arith))

-- A call for each byte and one more are turns enough, and more change nothing.
pub walk_turns : (minimal : Bool) (s : List ℕ) (p n : ℕ) → length s - p < n → walk_for n minimal s p ≡ walk_from minimal s p
unfolding walk_from
walk_turns minimal s p n h = enough minimal s n (suc (length s - p)) p h (omega arith)

pub unroll : (minimal : Bool) (s : List ℕ) (p : ℕ) → walk_from minimal s p ≡ continue (walk_says minimal s p) (walk_from minimal s (next_at minimal s p))
unfolding walk_from walk_for
unroll minimal s p =
    let q = next_at minimal s p in
    rest_same s p q (walk_says minimal s p) _ _ (moves minimal s p refl refl)
    (λ l h. enough minimal s (length s - p) (suc (length s - q)) q (omega arith) (omega arith))

-- one turn of a loop, by what the call answered: where that is a constructor, `continue` computes
pub turn : (minimal : Bool) (s : List ℕ) (p : ℕ) {q : ℕ} {a : Said Walked} → a ≡ walk_says minimal s p → q ≡ next_at minimal s p
    → walk_from minimal s p ≡ continue a (walk_from minimal s q)
turn minimal s p e m = rw (m, e) (unroll minimal s p)
