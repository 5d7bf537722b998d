-- Where the plain walk meets no refusal, the text is that of the instructions that it hands out: each call and each turn of the writer take
-- the same bytes. Assumes nothing.
use mathlib.Core.Path.{◌≡◌, refl, sym, ap, ◌∙◌}
use mathlib.Core.Bool.{false}
use mathlib.Core.List.{List, [], ◌∷◌, ◌++◌, append_assoc}
use Prim.Native.Nat.{ℕ, zero, suc, ◌+◌, ◌-◌, ◌≤◌, ◌<◌}
use native.Mathlib.Omega.{arith}
use borrow.Author.Tests.{lt-ltb, le-ltb, ne_eqb}
use lib.ListN.{length, get_or, take, drop, length-drop}
use lib.Seq.{length-take-le}
use Rattle.laws.specs.Said.{Said, answers, refuses}
use Rattle.opcodes.specs.Opcode.{PushForm, direct, pushdata1, pushdata2, pushdata4, length_bytes, sort_of, length_bytes_after}
use Rattle.opcodes.specs.Opcode as sort
use Rattle.script.specs.Script.{read_le}
use Rattle.script.specs.Walk.{Item, Walked, end, found, opcode, push, walk_says, next_at}
use Rattle.script.specs.Run.{item, walk_from, items, ending}
use Rattle.script.specs.Calls.{instruction_of}
use Rattle.script.specs.Steps.{stated}
use Rattle.script.specs.Instruction.{Instruction, opcode_of}
use Rattle.script.specs.Instruction as instruction
use Rattle.script.proofs.Step.{by_sort, push_code}
use Rattle.script.proofs.Minimal.{IsOf}
use Rattle.script.proofs.Good.{good_answer}
use Rattle.script.proofs.Run.{Moves, turn, moves}
use Rattle.asm.specs.Asm.{opcode_text, data_text, space_at, data_len, text_from, text_of}
use Rattle.asm.specs.Joined.{instruction_text, instructions, each_spaced, joined}
use Rattle.asm.proofs.Turn.{ends, opened, behind_whole}

-- the texts of instructions of which the first stands at a place
abbrev spaced : ℕ → List Instruction → List ℕ
spaced at [] = []
spaced at (i ∷ is) = space_at at ++ (instruction_text i ++ each_spaced is)

later : (at : ℕ) → 0 < at → (is : List Instruction) → spaced at is ≡ each_spaced is
unfolding space_at
later at h [] = refl
later at h (i ∷ is) = rw (ne_eqb at 0 (omega arith))

front : (is : List Instruction) → spaced 0 is ≡ joined is
unfolding space_at
front [] = refl
front (i ∷ is) = refl

no_length : (b : ℕ) → 78 < b → length_bytes_after (sort_of b) ≡ 0
no_length b h =
    by_sort b (λ k. length_bytes_after k ≡ 0) (λ e. absurd (omega arith)) (λ e. absurd (omega arith)) (λ e. absurd (omega arith))
    (λ e. absurd (omega arith)) (λ e. refl) (λ e. refl)

module _ (s : List ℕ) where
  -- the writer takes one whole instruction
  step : (at k len : ℕ) → k ≡ length_bytes_after (sort_of (get_or s at 0)) → len ≡ data_len s at → at + 1 + k + len ≤ length s
      → text_from s at ≡ space_at at ++ ((opcode_text (get_or s at 0) ++ data_text (take len (drop (at + 1 + k) s))) ++ text_from s (at + 1 + k + len))
  step at k len is l h =
      let a : at < length s = omega arith in
      let b : at + 1 + k ≤ length s = omega arith in
      opened s at a is b ∙ rw (behind_whole s at a is b l (omega arith), append_assoc)

  Texts : ℕ → Type 0
  Texts at = text_from s at ≡ spaced at (instructions s (items (walk_from false s at)))

  -- an opcode
  no_data : (at : ℕ) → 78 < get_or s at 0 → data_len s at ≡ 0
  unfolding data_len read_le
  no_data at h = rw (no_length (get_or s at 0) h, le-ltb (get_or s at 0) 76 (omega arith))

  -- a push of each form
  data_of : (at : ℕ) (form : PushForm) → sort_of (get_or s at 0) ≡ sort.push form → IsOf form (get_or s at 0) → stated (length_bytes form) s at ≡ data_len s at
  unfolding data_len stated
  data_of at direct e h = rw (lt-ltb (get_or s at 0) 76 h)
  data_of at pushdata1 e h = rw (e, le-ltb (get_or s at 0) 76 (omega arith))
  data_of at pushdata2 e h = rw (e, le-ltb (get_or s at 0) 76 (omega arith))
  data_of at pushdata4 e h = rw (e, le-ltb (get_or s at 0) 76 (omega arith))

  code_of : (at : ℕ) (form : PushForm) (n : ℕ) → IsOf form (get_or s at 0) → n ≡ stated (length_bytes form) s at → get_or s at 0 ≡ opcode_of form n
  unfolding stated
  code_of at direct n h e = sym e
  code_of at pushdata1 n h e = h
  code_of at pushdata2 n h e = h
  code_of at pushdata4 n h e = h

  module _ (at : ℕ) (rec : (q : ℕ) → at < q → q ≤ length s → ending (walk_from false s q) ≡ answers end → Texts q)
      (whole : ending (walk_from false s at) ≡ answers end) where
    -- the walk hands out an instruction that ends at q
    more : (i : Instruction) (w : Item) {q place : ℕ} → walk_from false s at ≡ item w (walk_from false s q) → instruction_of s w ≡ i
        → Moves s at q place → text_from s at ≡ space_at at ++ (instruction_text i ++ text_from s q) → Texts at
    unfolding Texts
    more i w {q} t g m e =
        let r : text_from s q ≡ each_spaced (instructions s (items (walk_from false s q))) =
        rec q m.on m.within (rw t at whole) ∙ later q (omega (arith, m.on)) (instructions s (items (walk_from false s q))) in
        rw (e, r, t, g)

    by_answer : (a : Said Walked) → walk_says false s at ≡ a → Texts at
    unfolding Texts instruction_text next_at
    by_answer (answers end) w =
        let g = good_answer false s at (answers end) w in
        ends s at (omega (arith, g.0)) ∙ rw (turn false s at (sym w) refl)
    by_answer (answers (found (opcode place code))) w =
        let g = good_answer false s at (answers (found (opcode place code))) w in
        let b : 78 < get_or s at 0 = omega (arith, g.is, g.above) in
        let z : at + 1 + 0 + 0 ≡ at + 1 = omega arith in
        more (instruction.opcode code) (opcode place code) {q = at + 1} (turn false s at (sym w) (rw w)) refl (moves false s at (sym w) (rw w))
        (rw g.is (rw z at (step at 0 0 (sym (no_length (get_or s at 0) b)) (sym (no_data at b)) (omega (arith, g.fits)))))
    by_answer (answers (found (push place form body len))) w =
        let g = good_answer false s at (answers (found (push place form body len))) w in
        let k : ℕ = length_bytes form in
        let o = push_code (get_or s at 0) form g.form_is in
        let n : length (take len (drop body s)) ≡ len = length-take-le len (drop body s) (simp length-drop (omega (arith, g.fits))) in
        let c : get_or s at 0 ≡ opcode_of form (length (take len (drop body s))) = rw n (code_of at form len o g.says) in
        let q : body + len ≡ at + (1 + k + len) = omega (arith, g.starts) in
        more (instruction.push form (take len (drop body s))) (push place form body len) {q = body + len} (turn false s at (sym w) (rw w q)) refl
        (moves false s at (sym w) (rw w q))
        (rw (← c, g.starts) (step at k len (ap length_bytes_after (sym g.form_is)) (g.says ∙ data_of at form g.form_is o) (omega (arith, g.starts, g.fits))))
    by_answer (refuses number values) w =
        let e : refuses number values ≡ answers end = rw (turn false s at (sym w) refl) at whole in cc

  from : (n at : ℕ) → length s - at ≤ n → ending (walk_from false s at) ≡ answers end → Texts at
  from zero at h e = by_answer at (λ q l m f. absurd (omega arith)) e (walk_says false s at) refl
  from (suc n) at h e = by_answer at (λ q l m f. from n q (omega arith) f) e (walk_says false s at) refl

  -- Where the plain walk meets no refusal, the text is its instructions' texts, joined by one space.
  pub text_of_walk : ending (walk_from false s 0) ≡ answers end → text_of s ≡ joined (instructions s (items (walk_from false s 0)))
  unfolding text_of Texts
  text_of_walk e = from (length s) 0 (omega arith) e ∙ front (instructions s (items (walk_from false s 0)))
