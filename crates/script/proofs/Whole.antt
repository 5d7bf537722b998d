-- The whole walk as one value lists what the calls hand out: the walk stops at the first call that hands out nothing, and no later one does.
-- Assumes nothing.
use mathlib.Core.Path.{◌≡◌, refl, sym, ap, ◌∙◌}
use mathlib.Core.Logic.{⊎_elim}
use mathlib.Core.Bool.{Bool}
use mathlib.Core.List.{List, [], ◌∷◌, ◌++◌, map, append-nil, append_assoc}
use Prim.Native.Nat.{ℕ, zero, suc, ◌+◌, ◌-◌, ◌≤◌, ◌<◌}
use native.Mathlib.Omega.{arith}
use lib.ListN.{length}
use Rattle.laws.specs.Said.{Said, answers, refuses}
use Rattle.laws.proofs.Test.{by_test, lt_or_le}
use Rattle.refusal.specs.Refusal.{limit}
use Rattle.script.specs.Walk.{Walked, end, found, walk_says, to_end, moved, next_at}
use Rattle.script.specs.Instruction.{Instruction}
use Rattle.script.specs.Calls.{position, call, instruction_of, given, handed}
use Rattle.script.specs.Run.{Run, stop, continue, walk_for, walk_from, items, ending}
use Rattle.script.proofs.Step.{too_long, at_end}
use Rattle.script.proofs.Run.{moves}

module _ (minimal : Bool) (s : List ℕ) where
  -- the walk from where k calls have come to, beside the calls
  record Listed (k : ℕ) (run : Run) : Type 0 where
    same : handed minimal s k ++ map (instruction_of s) (items run) ≡ handed minimal s (k + length (items run))
    last : ending run ≡ call minimal s (k + length (items run))
    over : given s (ending run) ≡ []

  stopped : (k : ℕ) (a : Said Walked) → call minimal s k ≡ a → given s a ≡ [] → Listed k (stop a)
  stopped k a e g =
      let z : k + 0 ≡ k = omega arith in
      record { same = rw (append-nil, z); last = rw z (sym e); over = g }

  -- one call more, by what it says
  one_more : (k : ℕ) (rest : Run) → (position minimal s k < position minimal s (suc k) → position minimal s (suc k) ≤ length s → Listed (suc k) rest)
      → (a : Said Walked) → call minimal s k ≡ a → Listed k (continue a rest)
  unfolding position handed
  one_more k rest f (answers end) e = stopped k (answers end) e refl
  one_more k rest f (refuses number values) e = stopped k (refuses number values) e refl
  one_more k rest f (answers (found i)) e =
      let m = moves minimal s (position minimal s k) (sym e) refl in
      let r = f m.on m.within in
      let z : k + suc (length (items rest)) ≡ suc k + length (items rest) = omega arith in
      let one : handed minimal s (suc k) ≡ handed minimal s k ++ (instruction_of s i ∷ []) = ap (λ a. handed minimal s k ++ given s a) e in
      record {
        same =
            sym (append_assoc (handed minimal s k) (instruction_of s i ∷ []) (map (instruction_of s) (items rest)))
            ∙ ap (λ (is : List Instruction). is ++ map (instruction_of s) (items rest)) (sym one)
            ∙ r.same
            ∙ ap (handed minimal s) (sym z);
        last = r.last ∙ ap (call minimal s) (sym z);
        over = r.over;
      }

  listed : (n k : ℕ) → length s - position minimal s k < n → Listed k (walk_for n minimal s (position minimal s k))
  unfolding walk_for position
  listed zero k h = absurd (omega arith)
  listed (suc n) k h = one_more k _ (λ on within. listed n (suc k) (omega arith)) (call minimal s k) refl

  whole : Listed 0 (walk_from minimal s 0)
  unfolding walk_from position
  whole = listed (suc (length s - 0)) 0 (omega arith)

  -- ---- after the walk has stopped

  at_length : given s (walk_says minimal s (length s)) ≡ []
  at_length =
      ⊎_elim (λ (h : limit < length s). ap (given s) (too_long minimal s (length s) h))
      (λ (l : length s ≤ limit). ap (given s) (at_end minimal s (length s) l refl))
      (lt_or_le limit (length s))

  quiet : (p : ℕ) (a : Said Walked) → walk_says minimal s p ≡ a → given s a ≡ [] → given s (walk_says minimal s (moved a s p)) ≡ []
  quiet p (answers end) e g = rw e g
  quiet p (answers (found i)) e g = absurd (let z : ◌≡◌ {A = ℕ} 0 1 = cc in omega arith)
  quiet p (refuses number values) e g =
      by_test (λ (q : ℕ). given s (walk_says minimal s q) ≡ []) (to_end number) (λ t. at_length) (λ t. rw e g)

  no_more : (k j : ℕ) → given s (call minimal s k) ≡ [] → (given s (call minimal s (k + j)) ≡ []) × (handed minimal s (k + j) ≡ handed minimal s k)
  unfolding position handed next_at
  no_more k zero g = let z : k + 0 ≡ k = omega arith in rw z (g, refl)
  no_more k (suc j) g =
      let z : k + suc j ≡ suc (k + j) = omega arith in
      let r = no_more k j g in
      rw z (quiet (position minimal s (k + j)) (call minimal s (k + j)) refl r.0, ap (λ (is : List Instruction). handed minimal s (k + j) ++ is) r.0 ∙ append-nil (handed minimal s (k + j)) ∙ r.1)

  -- how many instructions it lists
  abbrev count : ℕ
  count = length (items (walk_from minimal s 0))

  from_front : 0 + count ≡ count
  from_front = omega arith

  -- The walk's instructions are what the calls hand out, as many calls as it lists instructions or more ..
  pub items_handed : (n : ℕ) → length (items (walk_from minimal s 0)) ≤ n → map (instruction_of s) (items (walk_from minimal s 0)) ≡ handed minimal s n
  unfolding handed
  items_handed n h =
      let z : count + (n - count) ≡ n = omega arith in
      let g : given s (call minimal s count) ≡ [] = ap (λ k. given s (call minimal s k)) (sym from_front) ∙ ap (given s) (sym whole.last) ∙ whole.over in
      whole.same ∙ ap (handed minimal s) from_front ∙ sym (no_more count (n - count) g).1 ∙ ap (handed minimal s) z

  -- .. and the answer that ends it is the next call's.
  pub ending_called : ending (walk_from minimal s 0) ≡ call minimal s (length (items (walk_from minimal s 0)))
  ending_called = whole.last ∙ ap (call minimal s) from_front
