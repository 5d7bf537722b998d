-- What stands at a place is known once its size is: an opcode or a push by the opcode byte, its body's length by the size. Assumes nothing.
use mathlib.Core.Path.{◌≡◌, refl, sym, ap, ◌∙◌}
use mathlib.Core.Logic.{◌⊎◌, inl, inr, ⊎_elim}
use mathlib.Core.Bool.{Bool, true, false}
use mathlib.Core.List.{List}
use Prim.Native.Nat.{ℕ, ◌+◌, ◌-◌, ◌≤◌, ◌<◌}
use native.Mathlib.Omega.{arith}
use lib.ListN.{length, get_or}
use Rattle.laws.specs.Said.{Said, answers, refuses, unless}
use Rattle.laws.proofs.Test.{lt_or_le}
use Rattle.refusal.specs.Refusal.{limit}
use Rattle.opcodes.specs.Opcode.{PushForm, length_bytes, Sort, sort_of, length_bytes_after}
use Rattle.opcodes.specs.Opcode as sort
use Rattle.script.specs.Walk.{Item, Walked, end, found, opcode, push, walked, walk_says, next_at, size_said, size_says}
use Rattle.script.specs.Run.{stop, item, walk_from}
use Rattle.script.specs.Instruction.{Bytes}
use Rattle.script.specs.Steps.{stated, too_short}
use Rattle.script.proofs.Step.{
  too_long,
  bad_cursor,
  at_end,
  opcode_says,
  number_code,
  plain_code,
  says_length_cut,
  says_short,
  says_body_cut,
  says_push,
  settles,
}
use Rattle.script.proofs.Run.{turn}

module _ (minimal : Bool) (s : List ℕ) (at : ℕ) (form : PushForm) (sort-of : sort_of (get_or s at 0) ≡ sort.push form) (bytes : Bytes s) (l : length s ≤ limit)
    (h : at < length s) (k : ℕ) (k-is : k ≡ length_bytes form) where
  abbrev body : ℕ
  body = at + 1 + k

  abbrev len : ℕ
  len = stated k s at

  -- a push is refused, or stands whole
  abbrev Whole : Type 0
  Whole = (walk_says minimal s at ≡ answers (found (push at form body len))) × (body + len ≤ length s)

  judged : (b : Bool) → too_short minimal form s body len ≡ b → body ≤ length s → (size_said (walk_says minimal s at) ≡ 0) ⊎ Whole
  judged true e t = inl (ap size_said (sym (says_short minimal s at form sort-of bytes l h k len k-is refl t e).0))
  judged false e t =
      ⊎_elim (λ c. inl (ap size_said (sym (says_body_cut minimal s at form sort-of bytes l h k len k-is refl t e c).0)))
      (λ w. inr (sym (says_push minimal s at form sort-of bytes l h k len k-is refl t e w).0, omega arith))
      (lt_or_le (length s - body) len)

  way : (size_said (walk_says minimal s at) ≡ 0) ⊎ Whole
  way =
      ⊎_elim (λ c. inl (ap size_said (sym (says_length_cut minimal s at form sort-of bytes l h k len k-is c).0)))
      (λ t. judged (too_short minimal form s body len) refl t)
      (lt_or_le (length s) body)

  -- with its size its body's length is known
  module _ (size : ℕ) (e : size ≡ size_said (walk_says minimal s at)) (g : 0 < size) where
    whole : Whole
    whole = ⊎_elim (λ z. absurd (omega (arith, e, z))) (λ w. w) way

    sizes : size ≡ 1 + k + len
    sizes = omega (arith, e ∙ ap size_said whole.0, k-is)

    pub head_fits : 1 + k ≤ size
    head_fits = omega (arith, sizes)

    pub size_fits : at + size ≤ length s
    size_fits = omega (arith, sizes, whole.1)

    pub whole_push : walk_says minimal s at ≡ answers (found (push at form body (size - (1 + k))))
    whole_push = whole.0 ∙ ap (λ n. answers (found (push at form body n))) (omega (arith, sizes))

-- the opcode byte and the size tell what stands there
module _ (minimal : Bool) (s : List ℕ) (at : ℕ) (bytes : Bytes s) (size : ℕ) (e : size ≡ size_said (walk_says minimal s at)) (g : 0 < size) where
  pub within_limit_lem : length s ≤ limit
  within_limit_lem = ⊎_elim (λ c. absurd (omega (arith, e ∙ ap size_said (too_long minimal s at c)))) (λ t. t) (lt_or_le limit (length s))

  pub inside_script : at < length s
  inside_script =
      ⊎_elim (λ t. t)
      (λ c. ⊎_elim (λ b. absurd (omega (arith, e ∙ ap size_said (bad_cursor minimal s at within_limit_lem b))))
      (λ b. let q : length s ≡ at = omega arith in absurd (omega (arith, e ∙ ap size_said (at_end minimal s at within_limit_lem q))))
      (lt_or_le (length s) at))
      (lt_or_le at (length s))

  abbrev code : ℕ
  code = get_or s at 0

  abbrev what : Sort → Item
  what k = walked k at code (size - (1 + length_bytes_after k))

  record Stands (k : Sort) : Type 0 where
    is : walk_says minimal s at ≡ answers (found (what k))
    head : 1 + length_bytes_after k ≤ size
    fits : at + size ≤ length s

  one_byte : 78 < code → size ≡ 1
  one_byte o = e ∙ ap size_said (opcode_says minimal s at within_limit_lem inside_script o)

  stands : (k : Sort) → sort_of code ≡ k → Stands k
  stands (sort.push form) q =
      record {
        is = whole_push minimal s at form q bytes within_limit_lem inside_script (length_bytes form) refl size e g;
        head = head_fits minimal s at form q bytes within_limit_lem inside_script (length_bytes form) refl size e g;
        fits = size_fits minimal s at form q bytes within_limit_lem inside_script (length_bytes form) refl size e g;
      }
  stands sort.number q =
      let o = number_code code q in
      record { is = opcode_says minimal s at within_limit_lem inside_script o; head = omega (arith, one_byte o); fits = omega (arith, one_byte o, inside_script) }
  stands sort.plain q =
      let o = plain_code code q in
      record { is = opcode_says minimal s at within_limit_lem inside_script o; head = omega (arith, one_byte o); fits = omega (arith, one_byte o, inside_script) }

  pub stands_is : walk_says minimal s at ≡ answers (found (what (sort_of code)))
  stands_is = (stands (sort_of code) refl).is

  pub stands_head : 1 + length_bytes_after (sort_of code) ≤ size
  stands_head = (stands (sort_of code) refl).head

  pub stands_fits : at + size ≤ length s
  stands_fits = (stands (sort_of code) refl).fits

  pub stands_next : at + size ≡ next_at minimal s at
  stands_next = (settles minimal s at _ _ stands_is (ap (λ n. at + n) (e ∙ ap size_said stands_is))).1

  -- a turn of a loop over sizes
  turned : (k : Sort) → sort_of code ≡ k → walk_from minimal s at ≡ item (what k) (walk_from minimal s (at + size))
  turned (sort.push form) q = turn minimal s at (sym (stands (sort.push form) q).is) stands_next
  turned sort.number q = turn minimal s at (sym (stands sort.number q).is) stands_next
  turned sort.plain q = turn minimal s at (sym (stands sort.plain q).is) stands_next

  pub turn_sized : walk_from minimal s at ≡ item (what (sort_of code)) (walk_from minimal s (at + size))
  turn_sized = turned (sort_of code) refl

-- where there is no size the walk stops
module _ (minimal : Bool) (s : List ℕ) (at : ℕ) (z : size_said (walk_says minimal s at) ≡ 0) where
  stopped : (a : Said Walked) → walk_says minimal s at ≡ a → walk_from minimal s at ≡ stop a
  stopped (answers end) e = turn minimal s at (sym e) refl
  stopped (answers (found (opcode place c))) e = absurd (omega (arith, z, ap size_said e))
  stopped (answers (found (push place form body len))) e = absurd (omega (arith, z, ap size_said e))
  stopped (refuses number values) e = turn minimal s at (sym e) refl

  pub stops : walk_from minimal s at ≡ stop (walk_says minimal s at)
  stops = stopped (walk_says minimal s at) refl

-- what is said of the size: the call's refusal, or its size
module _ (minimal : Bool) (s : List ℕ) (at : ℕ) where
  abbrev there : Said Walked
  there = walk_says minimal s at

  pub says_size : {a : Said Walked} → there ≡ a → unless a (answers (size_said a)) ≡ size_says minimal s at
  unfolding size_says
  says_size e = ap (λ (a : Said Walked). unless a (answers (size_said a))) (sym e)

  -- where a size is told the call is not refused
  pub size_told : {A : Type 0} {n : ℕ} (said : Said A) → answers n ≡ size_says minimal s at → unless there said ≡ said
  unfolding size_says
  size_told {n = n} said e = go there e
    where
      go : (a : Said Walked) → answers n ≡ unless a (answers (size_said a)) → unless a said ≡ said
      go (answers w) e = refl
      go (refuses number values) e = cc

  pub size_refused : {number : ℕ} {values : List ℕ} → refuses number values ≡ size_says minimal s at → there ≡ refuses number values
  unfolding size_says
  size_refused {number} {values} e = go there e
    where
      go : (a : Said Walked) → refuses number values ≡ unless a (answers (size_said a)) → a ≡ refuses number values
      go (answers w) e = cc
      go (refuses number values) e = cc
