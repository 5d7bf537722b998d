-- When a call says that a length is cut, when a body, and with which values. Assumes nothing.
use mathlib.Core.Path.{◌≡◌, refl, sym, ◌∙◌, subst}
use mathlib.Core.Logic.{◌↔◌, ⊎_elim}
use mathlib.Core.Bool.{Bool, ◌&&◌}
use mathlib.Core.List.{List, [], ◌∷◌}
use Prim.Native.Nat.{ℕ, suc, ◌+◌, ◌-◌, ◌≤◌, ◌<◌}
use native.Mathlib.Omega.{arith}
use borrow.Author.Tests.{lt-ltb, le-ltb}
use lib.ListN.{length, get_or, take, drop}
use Rattle.laws.specs.Said.{Said, answers, refuses}
use Rattle.laws.proofs.Test.{by_test, lt_or_le}
use Rattle.refusal.specs.Refusal.{limit}
use Rattle.opcodes.specs.Opcode.{length_bytes, Sort, sort_of}
use Rattle.opcodes.specs.Opcode as sort
use Rattle.script.specs.Script.{ScriptOp, fails, reads, assign, get_script_op, Lack, of_body, bytes_lacking, lacks}
use Rattle.script.specs.Walk.{Walked, not_minimal, cut_not_minimal, walk_says}
use Rattle.script.specs.Steps.{stated}
use Rattle.script.specs.Cut.{CutLength, CutBody}
use Rattle.script.proofs.Step.{
  bad_cursor,
  at_end,
  push_code,
  number_code,
  plain_code,
  opcode_read,
  push_read,
  opcode_lacks,
  push_lacks,
  length_cut,
  body_cut,
  whole_push,
  opcode_says,
}

-- fails, and lacks something; or neither
abbrev Same : ScriptOp → Lack → Type 0
Same o k = (o ≡ fails) ↔ (0 < bytes_lacking k)

-- Behind an opcode GetScriptOp returns false exactly if bytes are missing.
pub fails_exactly : (s : List ℕ) (at : ℕ) → at < length s → (get_script_op s at ≡ fails) ↔ (0 < bytes_lacking (lacks s at))
unfolding assign
fails_exactly s at h = go (sort_of (get_or s at 0)) refl
  where
    read : {code pc : ℕ} {vch : List ℕ} → Same (reads code vch pc) (of_body 0)
    read = (λ e. let z : ◌≡◌ {A = ℕ} 0 1 = cc in absurd (omega arith), λ n. absurd (omega arith))

    whole : (o : ScriptOp) (k : Lack) → get_script_op s at ≡ o → lacks s at ≡ k → Same o k → Same (get_script_op s at) (lacks s at)
    whole o k e f p = rw (e, f) p

    go : (k : Sort) → sort_of (get_or s at 0) ≡ k → Same (get_script_op s at) (lacks s at)
    go (sort.push form) e =
        let b = push_code (get_or s at 0) form e in
        let start : ℕ = at + 1 + length_bytes form in
        let says : ℕ = stated (length_bytes form) s at in
        whole _ _ (push_read s at h form b) (push_lacks s at h form b)
        (⊎_elim
        (λ (c : length s < start). rw (lt-ltb (length s) start c) (λ e. omega arith, λ n. refl))
        (λ (there : start ≤ length s).
        rw (le-ltb (length s) start there)
        (⊎_elim
        (λ (c : length s - start < says). rw (lt-ltb (length s - start) says c) (λ e. omega arith, λ n. refl))
        (λ (w : says ≤ length s - start).
        let z : says - (length s - start) ≡ 0 = omega arith in
        rw (le-ltb (length s - start) says w, z) read)
        (lt_or_le (length s - start) says)))
        (lt_or_le (length s) start))
    go sort.number e = let o = number_code (get_or s at 0) e in whole _ _ (opcode_read s at h o) (opcode_lacks s at h o) read
    go sort.plain e = let o = plain_code (get_or s at 0) e in whole _ _ (opcode_read s at h o) (opcode_lacks s at h o) read

-- an answer that is neither of the two refusals
abbrev Neither : Said Walked → Type 0
Neither (answers w) = Unit {0}
Neither (refuses number values) = (number ≡ 14 → ⊥) × (number ≡ 15 → ⊥)

module _ (minimal : Bool) (s : List ℕ) (l : length s ≤ limit) (at : ℕ) where
  -- the three ways of a call
  data Way : Type 0 where
    in_length : (missing : ℕ) → CutLength s at missing → walk_says minimal s at ≡ refuses 14 (at ∷ missing ∷ []) → Way
    in_body : (missing : ℕ) → CutBody minimal s at missing → walk_says minimal s at ≡ refuses 15 (at ∷ missing ∷ []) → Way
    of_neither : Neither (walk_says minimal s at) → Way

  neither : (a : Said Walked) → Neither a → walk_says minimal s at ≡ a → Way
  neither a n e = of_neither (subst Neither (sym e) n)

  -- by the opcode that stands there
  way_inside : at < length s → (k : Sort) → sort_of (get_or s at 0) ≡ k → Way
  way_inside h (sort.push form) k =
      let start : ℕ = at + 1 + length_bytes form in
      let says : ℕ = stated (length_bytes form) s at in
      ⊎_elim
      (λ (c : length s < start).
      in_length (start - length s) (record { form = form; inside = h; opens = k; short = omega arith; ends = omega arith })
      (length_cut s at form k minimal l h c))
      (λ (there : start ≤ length s).
      ⊎_elim
      (λ (c : length s - start < says).
      by_test (λ a. walk_says minimal s at ≡ a → Way) (minimal && cut_not_minimal s at)
      (λ t. neither (refuses 2 (at ∷ [])) (λ e. omega arith, λ e. omega arith))
      (λ t.
      in_body (says - (length s - start))
      (record { form = form; inside = h; opens = k; there = there; passes = t; short = omega arith; ends = omega arith }))
      (body_cut s at form k minimal l h there c))
      (λ (w : says ≤ length s - start).
      neither _
      (by_test Neither (minimal && not_minimal (get_or s at 0) (take says (drop start s))) (λ t. (λ e. omega arith, λ e. omega arith)) (λ t. tt))
      (whole_push s at form k minimal l h there w))
      (lt_or_le (length s - start) says))
      (lt_or_le (length s) start)
  way_inside h sort.number k = neither _ tt (opcode_says minimal s at l h (number_code (get_or s at 0) k))
  way_inside h sort.plain k = neither _ tt (opcode_says minimal s at l h (plain_code (get_or s at 0) k))

  way : Way
  way =
      ⊎_elim
      (λ (h : at < length s). way_inside h (sort_of (get_or s at 0)) refl)
      (λ (g : length s ≤ at).
      ⊎_elim
      (λ (e : at < suc (length s)). neither _ tt (at_end minimal s at l (omega arith)))
      (λ (b : length s < at). neither _ (λ e. omega arith, λ e. omega arith) (bad_cursor minimal s at l b))
      (lt_or_le at (suc (length s))))
      (lt_or_le at (length s))

  -- A call says 14 exactly if a push whose length bytes are cut stands at its place, with that place and the length bytes that are missing.
  pub length_cut_exactly : (values : List ℕ) → (walk_says minimal s at ≡ refuses 14 values) ↔ ((missing : ℕ) × (values ≡ at ∷ missing ∷ []) × CutLength s at missing)
  length_cut_exactly values = (λ e. told e way, λ p. says p.0 p.1 p.2)
    where
      told : walk_says minimal s at ≡ refuses 14 values → Way → (missing : ℕ) × (values ≡ at ∷ missing ∷ []) × CutLength s at missing
      told e (in_length missing c r) = (missing, cc, c)
      told e (in_body missing c r) = let z : ◌≡◌ {A = ℕ} 14 15 = cc in absurd (omega arith)
      told e (of_neither n) = absurd ((subst Neither e n).0 refl)

      says : (missing : ℕ) → values ≡ at ∷ missing ∷ [] → CutLength s at missing → walk_says minimal s at ≡ refuses 14 values
      says missing v c =
          let m : at + 1 + length_bytes c.form - length s ≡ missing = omega (arith, c.ends) in
          rw (v, ← m) (length_cut s at c.form c.opens minimal l c.inside (omega (arith, c.ends, c.short)))

  -- A call says 15 exactly if the length bytes are there and pass, and the body is cut, with its place and the bytes of the body that are missing.
  pub body_cut_exactly : (values : List ℕ) → (walk_says minimal s at ≡ refuses 15 values) ↔ ((missing : ℕ) × (values ≡ at ∷ missing ∷ []) × CutBody minimal s at missing)
  body_cut_exactly values = (λ e. told e way, λ p. says p.0 p.1 p.2)
    where
      told : walk_says minimal s at ≡ refuses 15 values → Way → (missing : ℕ) × (values ≡ at ∷ missing ∷ []) × CutBody minimal s at missing
      told e (in_length missing c r) = let z : ◌≡◌ {A = ℕ} 14 15 = cc in absurd (omega arith)
      told e (in_body missing c r) = (missing, cc, c)
      told e (of_neither n) = absurd ((subst Neither e n).1 refl)

      says : (missing : ℕ) → values ≡ at ∷ missing ∷ [] → CutBody minimal s at missing → walk_says minimal s at ≡ refuses 15 values
      says missing v c =
          let start : ℕ = at + 1 + length_bytes c.form in
          let m : stated (length_bytes c.form) s at - (length s - start) ≡ missing = omega (arith, c.ends, c.there) in
          rw (v, ← m) (body_cut s at c.form c.opens minimal l c.inside c.there (omega (arith, c.ends, c.there, c.short)) ∙ rw c.passes)
