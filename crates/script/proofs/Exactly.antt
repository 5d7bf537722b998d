-- When one call hands out an instruction, refuses or says end: there is an instruction of the mode whose bytes stand at the position, there is
-- none though bytes remain, no byte remains. Assumes nothing.
use mathlib.Core.Path.{◌≡◌, refl, sym, ◌∙◌, subst}
use mathlib.Core.Logic.{◌↔◌, inl, inr, ⊎_elim}
use mathlib.Core.Bool.{Bool, false, ◌&&◌, and-false}
use mathlib.Core.List.{List, [], ◌∷◌}
use Prim.Native.Nat.{ℕ, suc, ◌+◌, ◌≤◌, ◌<◌}
use native.Mathlib.Omega.{arith}
use borrow.Author.Tests.{lt-leb, not-true}
use lib.ListN.{length, get_or, take, drop, length-drop}
use lib.Seq.{length-take-le}
use Rattle.laws.specs.Said.{Said, answers, refuses}
use Rattle.laws.proofs.Test.{by_test, lt_or_le}
use Rattle.laws.proofs.Part.{part_bytes}
use Rattle.refusal.specs.Refusal.{limit}
use Rattle.opcodes.specs.Opcode.{PushForm, direct, pushdata1, pushdata2, pushdata4, length_bytes, sort_of}
use Rattle.script.specs.Script.{ScriptOp, fails, reads, get_script_op, lacks}
use Rattle.script.specs.Steps.{stated}
use Rattle.script.specs.Walk.{Walked, end, found, walked, not_minimal, cut_not_minimal, judged, walk_says, moved, next_at}
use Rattle.script.specs.Walk as walk
use Rattle.script.specs.Instruction.{Instruction, opcode, push, Bytes, Stands, opcode_of, write_le, size, wasteful, code_of, data_of, StandsAt}
use Rattle.script.specs.Calls.{given}
use Rattle.script.specs.Demand.{NamesPlace}
use Rattle.script.proofs.Minimal.{IsOf, minimal_same}
use Rattle.script.proofs.Step.{bad_cursor, at_end, inside, by_lack, push_code, stated_most}
use Rattle.script.proofs.Good.{OpcodeAt, PushAt, good_answer}
use Rattle.script.proofs.Encoding.{size_is, encode_length, write_read, Laid, laid_bytes, bytes_laid}
use Rattle.script.proofs.Reading.{form_code, laid_reads, same_instruction}

-- what document 01 calls wasteful, Core calls not minimal
pub judges : (i : Instruction) → Stands i → not_minimal (code_of i) (data_of i) ≡ wasteful i
unfolding not_minimal
judges (opcode code) st = rw (lt-leb code 78 st.0)
judges (push form body) st =
    minimal_same form (opcode_of form (length body)) body (form_code form (length body) st.0) (λ e. rw e) st.0

-- ---- what is handed out stands there

module _ (minimal : Bool) (s : List ℕ) (bytes : Bytes s) (at : ℕ) where
  stands_at : (i : Instruction) → Stands i → Laid s at i → (minimal && not_minimal (code_of i) (data_of i)) ≡ false → StandsAt minimal s at i
  stands_at i st f m =
      record { stands = st; taken = rw (← judges i st, m); bytes = rw (sym (encode_length i)) at (laid_bytes s at i f) }

  opcode_stands : (place code : ℕ) → OpcodeAt s at place code → StandsAt minimal s at (opcode code)
  unfolding write_le not_minimal
  opcode_stands place code g =
      stands_at (opcode code) (g.above, rw g.is (bytes at))
      (record { fits = g.fits; code = sym g.is; lengths = refl; body = refl })
      (rw (lt-leb code 78 g.above, and-false))

  -- the opcode and the length bytes of a push
  front : (form : PushForm) → IsOf form (get_or s at 0) → at + 1 + length_bytes form ≤ length s
      → (get_or s at 0 ≡ opcode_of form (stated (length_bytes form) s at))
      × (take (length_bytes form) (drop (at + 1) s) ≡ write_le (length_bytes form) (stated (length_bytes form) s at))
  unfolding stated write_le
  front direct o h = (refl, refl)
  front pushdata1 o h = (o, sym (write_read s bytes 1 (at + 1) h))
  front pushdata2 o h = (o, sym (write_read s bytes 2 (at + 1) h))
  front pushdata4 o h = (o, sym (write_read s bytes 4 (at + 1) h))

  push_stands : (place : ℕ) (form : PushForm) (body len : ℕ) → length (take len (drop body s)) ≡ len → PushAt minimal s at place form body len
      → StandsAt minimal s at (push form (take len (drop body s)))
  push_stands place form body len l g =
      let o : IsOf form (get_or s at 0) = push_code (get_or s at 0) form g.form_is in
      let f = front form o (omega arith) in
      let c : opcode_of form (length (take len (drop body s))) ≡ get_or s at 0 = rw (l, g.says) (sym f.0) in
      stands_at (push form (take len (drop body s)))
      (rw (l, g.says) (stated_most s at form g.form_is bytes form o), part_bytes s bytes len body l)
      (record { fits = rw l (omega arith); code = sym c; lengths = rw (l, g.says) f.1; body = rw (l, ← g.starts) })
      (rw c g.least)

-- ---- one call

-- a refusal that names its position
abbrev Place : ℕ → Said Walked → Type 0
Place at (answers w) = Unit {0}
Place at (refuses number values) = NamesPlace at number values

module _ (minimal : Bool) (s : List ℕ) (l : length s ≤ limit) (at : ℕ) where
  -- A call says end exactly if no byte remains.
  pub ends_exactly : (walk_says minimal s at ≡ answers end) ↔ (at ≡ length s)
  ends_exactly = (λ e. sym (good_answer minimal s at (answers end) e).0, λ e. at_end minimal s at l (sym e))

  pub not_both : {number : ℕ} {values : List ℕ} {w : Walked} → walk_says minimal s at ≡ refuses number values → walk_says minimal s at ≡ answers w → ⊥
  not_both p q = let z : ◌≡◌ {A = ℕ} 0 1 = cc in omega arith

  refused_inside : at ≤ length s → (number : ℕ) (values : List ℕ) → walk_says minimal s at ≡ refuses number values → at < length s
  refused_inside w number values e =
      ⊎_elim (λ h. h) (λ (g : length s ≤ at). absurd (not_both e (at_end minimal s at l (omega arith)))) (lt_or_le at (length s))

  refusal_place : at < length s → (number : ℕ) (values : List ℕ) → walk_says minimal s at ≡ refuses number values → Place at (refuses number values)
  refusal_place h number values e = subst (Place at) (sym (inside minimal s at l h) ∙ e) (placed (get_script_op s at))
    where
      placed : (o : ScriptOp) → Place at (judged minimal s at o)
      placed fails = by_test (Place at) (minimal && cut_not_minimal s at) (λ t. inl (refl, refl)) (λ t. by_lack (Place at) at (lacks s at) (λ m. inr (inl refl, (m, refl))) (λ m. inr (inr refl, (m, refl))))
      placed (reads code vch pc) = by_test (Place at) (minimal && not_minimal code vch) (λ t. inl (refl, refl)) (λ t. tt)

  -- what Core reads and the mode takes is no refusal
  standing_answers : (i : Instruction) → StandsAt minimal s at i → walk_says minimal s at ≡ answers (found (walked (sort_of (code_of i)) at (code_of i) (length (data_of i))))
  standing_answers i a =
      let f = bytes_laid s at i a.bytes in
      let m : (minimal && wasteful i) ≡ false = not-true (minimal && wasteful i) a.taken in
      inside minimal s at l (omega (arith, f.fits, size_is i)) ∙ rw (laid_reads s at i a.stands f, judges i a.stands, m)

  -- the three ways of a call
  pub data Says : Type 0 where
    says_end : at ≡ length s → Says
    hands : (i : Instruction) → StandsAt minimal s at i → given s (walk_says minimal s at) ≡ i ∷ [] → next_at minimal s at ≡ at + size i → Says
    refused : (number : ℕ) (values : List ℕ) → walk_says minimal s at ≡ refuses number values → Says

  module _ (bytes : Bytes s) where
    pub says : at ≤ length s → Says
    unfolding next_at
    says w = go (walk_says minimal s at) refl
      where
        go : (a : Said Walked) → walk_says minimal s at ≡ a → Says
        go (answers end) e = says_end (ends_exactly.0 e)
        go (answers (found (walk.opcode place code))) e =
            hands (opcode code) (opcode_stands minimal s bytes at place code (good_answer minimal s at _ e)) (rw e) (rw e)
        go (answers (found (walk.push place form body len))) e =
            let g = good_answer minimal s at (answers (found (walk.push place form body len))) e in
            let n : length (take len (drop body s)) ≡ len = length-take-le len (drop body s) (simp length-drop (omega (arith, g.fits))) in
            hands (push form (take len (drop body s))) (push_stands minimal s bytes at place form body len n g) (rw e) (rw (e, n))
        go (refuses number values) e = refused number values e

    -- A call refuses exactly if bytes remain and no instruction that the mode takes stands at the position.
    pub refuses_exactly : at ≤ length s
        → ((number : ℕ) × (values : List ℕ) × (walk_says minimal s at ≡ refuses number values)) ↔ (at < length s) × ((i : Instruction) → StandsAt minimal s at i → ⊥)
    refuses_exactly w =
        (λ e. (refused_inside w e.0 e.1 e.2, λ i a. not_both e.2 (standing_answers i a)), λ p. go p.0 p.1 (says w))
      where
        go : at < length s → ((i : Instruction) → StandsAt minimal s at i → ⊥) → Says
            → (number : ℕ) × (values : List ℕ) × (walk_says minimal s at ≡ refuses number values)
        go h none (says_end p) = absurd (omega arith)
        go h none (hands i a g n) = absurd (none i a)
        go h none (refused number values r) = (number, values, r)

    -- Its number is 2, 14 or 15, its first value is the position, and the next cursor is at the script's end.
    pub refusal_is : at ≤ length s → (number : ℕ) (values : List ℕ) → walk_says minimal s at ≡ refuses number values
        → NamesPlace at number values × (next_at minimal s at ≡ length s)
    unfolding next_at
    refusal_is w number values e = let p = refusal_place (refused_inside w number values e) number values e in (p, rw e (to_end_lem p))
      where
        to_end_lem : NamesPlace at number values → moved (refuses number values) s at ≡ length s
        to_end_lem (inl two) = rw two.0
        to_end_lem (inr (inl length_cut, m)) = rw length_cut
        to_end_lem (inr (inr body_cut, m)) = rw body_cut

    given_hands : (i : Instruction) → given s (walk_says minimal s at) ≡ i ∷ [] → StandsAt minimal s at i × (next_at minimal s at ≡ at + size i)
    given_hands i e =
        ⊎_elim (λ (w : at < suc (length s)). go (says (omega arith))) (λ (g : length s < at). absurd (none_given (bad_cursor minimal s at l g))) (lt_or_le at (suc (length s)))
      where
        none_given : {number : ℕ} {values : List ℕ} → walk_says minimal s at ≡ refuses number values → ⊥
        none_given r = let z : ◌≡◌ {A = ℕ} 0 1 = cc in omega arith

        go : Says → StandsAt minimal s at i × (next_at minimal s at ≡ at + size i)
        go (says_end p) = let q = at_end minimal s at l (sym p) in let z : ◌≡◌ {A = ℕ} 0 1 = cc in absurd (omega arith)
        go (hands j a g n) = let same : j ≡ i = cc in (rw same at a, rw same at n)
        go (refused number values r) = absurd (none_given r)

    -- A call hands out an instruction exactly if the mode takes it and it stands at the position.
    pub hands_exactly : (i : Instruction) → StandsAt minimal s at i ↔ given s (walk_says minimal s at) ≡ i ∷ []
    hands_exactly i = (λ a. go a (bytes_laid s at i a.bytes), λ e. (given_hands i e).0)
      where
        go : StandsAt minimal s at i → Laid s at i → given s (walk_says minimal s at) ≡ i ∷ []
        go a f = by_way (says (omega (arith, f.fits)))
          where
            by_way : Says → given s (walk_says minimal s at) ≡ i ∷ []
            by_way (says_end p) = absurd (omega (arith, f.fits, size_is i))
            by_way (hands j b g n) =
                let r = laid_reads s at i a.stands f in
                let t = laid_reads s at j b.stands (bytes_laid s at j b.bytes) in
                let same : j ≡ i = same_instruction j i b.stands a.stands (cc) (cc) in
                rw same at g
            by_way (refused number values r) = absurd (not_both r (standing_answers i a))

    -- The cursor then stands past it.
    pub hands_next : (i : Instruction) → given s (walk_says minimal s at) ≡ i ∷ [] → next_at minimal s at ≡ at + size i
    hands_next i e = (given_hands i e).1
