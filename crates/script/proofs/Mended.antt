-- Bytes put behind a script: what was handed out stays, and a push that was cut is mended or lacks fewer. Assumes nothing.
use mathlib.Core.Path.{◌≡◌, refl, sym, ap, ◌∙◌}
use mathlib.Core.Bool.{Bool, false}
use mathlib.Core.List.{List, [], ◌∷◌, ◌++◌}
use Prim.Native.Nat.{ℕ, zero, suc, ◌+◌, ◌-◌, ◌≤◌, ◌<◌}
use native.Mathlib.Omega.{arith}
use lib.ListN.{length, get_or, take, drop, length-append, length-drop, get_or-append}
use lib.Seq.{take-append-le, drop-append-le}
use Rattle.laws.specs.Said.{Said, answers, refuses}
use Rattle.refusal.specs.Refusal.{limit}
use Rattle.opcodes.specs.Opcode.{PushForm, direct, pushdata1, pushdata2, pushdata4, length_bytes, Sort, sort_of}
use Rattle.opcodes.specs.Opcode as sort
use Rattle.script.specs.Script.{read_le}
use Rattle.script.specs.Walk.{Item, Walked, end, found, opcode, push, walk_says, next_at}
use Rattle.script.specs.Steps.{stated}
use Rattle.script.specs.Instruction.{Bytes}
use Rattle.script.specs.Calls.{position, call}
use Rattle.script.specs.Cut.{CutLength, CutBody, PushTo, Mended}
use Rattle.script.proofs.Step.{at_end, length_cut, body_cut, whole_push, opcode_says}
use Rattle.script.proofs.Good.{good_answer}
use Rattle.script.proofs.Exactly.{not_both}
use Rattle.script.proofs.Handed.{stays, after_refusal}
use Rattle.script.proofs.Cut.{length_cut_exactly, body_cut_exactly}

module _ (s more : List ℕ) where
  abbrev joined : List ℕ
  joined = s ++ more

  -- ---- what the bytes of the first say

  byte_same : (p : ℕ) → p < length s → get_or joined p 0 ≡ get_or s p 0
  byte_same p h = get_or-append s more 0 p h

  sort_same : (p : ℕ) (k : Sort) → p < length s → sort_of (get_or s p 0) ≡ k → sort_of (get_or joined p 0) ≡ k
  sort_same p k h e = rw (byte_same p h) e

  le_same : (k p : ℕ) → p + k ≤ length s → read_le k joined p ≡ read_le k s p
  unfolding read_le
  le_same zero p h = refl
  le_same (suc k) p h = rw (byte_same p (omega arith), le_same k (suc p) (omega arith))

  stated_same : (form : PushForm) (p : ℕ) → p < length s → p + 1 + length_bytes form ≤ length s
      → stated (length_bytes form) joined p ≡ stated (length_bytes form) s p
  unfolding stated
  stated_same direct p h there = byte_same p h
  stated_same pushdata1 p h there = le_same 1 (p + 1) there
  stated_same pushdata2 p h there = le_same 2 (p + 1) there
  stated_same pushdata4 p h there = le_same 4 (p + 1) there

  part_same : (b n : ℕ) → b + n ≤ length s → take n (drop b joined) ≡ take n (drop b s)
  part_same b n h = rw (drop-append-le b s more (omega arith)) (take-append-le n (drop b s) more (simp length-drop (omega arith)))

  module _ (l : length joined ≤ limit) where
    longer : length joined ≡ length s + length more
    longer = length-append s more

    small : length s ≤ limit
    small = omega (arith, longer)

    -- an instruction that is handed out stays
    found_same : (minimal : Bool) (p : ℕ) (i : Item) → walk_says minimal s p ≡ answers (found i) → walk_says minimal joined p ≡ answers (found i)
    found_same minimal p (opcode place code) e =
        let g = good_answer minimal s p (answers (found (opcode place code))) e in
        let h : p < length s = omega (arith, g.fits) in
        let b : get_or joined p 0 ≡ code = byte_same p h ∙ sym g.is in
        opcode_says minimal joined p l (omega (arith, longer)) (rw b g.above) ∙ rw (b, g.here)
    found_same minimal p (push place form body len) e =
        let g = good_answer minimal s p (answers (found (push place form body len))) e in
        let h : p < length s = omega (arith, g.fits, g.starts) in
        let there : p + 1 + length_bytes form ≤ length s = omega (arith, g.fits, g.starts) in
        let n : stated (length_bytes form) joined p ≡ len = stated_same form p h there ∙ sym g.says in
        whole_push joined p form (sort_same p (sort.push form) h g.form_is) minimal l (omega (arith, longer)) (omega (arith, longer))
        (omega (arith, longer, n, g.fits, g.starts))
        ∙ rw (n, byte_same p h, ← g.starts, part_same body len g.fits, g.least, g.here)

    -- ---- the calls before the one that was refused

    module _ (minimal : Bool) (bytes : Bytes s) (n number : ℕ) (values : List ℕ) (r : call minimal s n ≡ refuses number values) where
      before : (i : ℕ) → i < n → (x : Item) × (call minimal s i ≡ answers (found x))
      before i h = go (call minimal s i) refl
        where
          not_end : call minimal s n ≡ answers end → ⊥
          not_end e = not_both minimal s small (position minimal s n) r e

          go : (a : Said Walked) → call minimal s i ≡ a → (x : Item) × (call minimal s i ≡ answers (found x))
          go (answers end) e =
              let p = sym (good_answer minimal s (position minimal s i) (answers end) e).0 in
              absurd (not_end (at_end minimal s (position minimal s n) small (sym (stays minimal s small bytes i n (omega arith) p))))
          go (answers (found x)) e = (x, e)
          go (refuses m v) e = absurd (not_end (after_refusal minimal s small bytes i n m v e h))

      position_same : (i : ℕ) → i ≤ n → position minimal joined i ≡ position minimal s i
      unfolding position next_at
      position_same zero h = refl
      position_same (suc i) h =
          let b = before i (omega arith) in
          rw (position_same i (omega arith), b.1, found_same minimal (position minimal s i) b.0 b.1)

      call_same : call minimal joined n ≡ walk_says minimal joined (position minimal s n)
      call_same = ap (walk_says minimal joined) (position_same n (omega arith))

    -- ---- the call that was refused

    module _ (bytes : Bytes s) (n : ℕ) where
      abbrev at : ℕ
      at = position false s n

      -- its length bytes were cut
      module _ (place missing : ℕ) (r : call false s n ≡ refuses 14 (place ∷ missing ∷ [])) where
        told_length : (place ≡ at) × CutLength s at missing
        told_length =
            let t = (length_cut_exactly false s small at (place ∷ missing ∷ [])).0 r in
            let m : t.0 ≡ missing = let v = t.1 in cc in
            (let v = t.1 in cc, rw m at t.2)

        abbrev cut_length : CutLength s at missing
        cut_length = told_length.1

        opens_length : sort_of (get_or joined at 0) ≡ sort.push cut_length.form
        opens_length = sort_same at (sort.push cut_length.form) cut_length.inside cut_length.opens

        length_short : length more < missing → call false joined n ≡ refuses 14 (place ∷ (missing - length more) ∷ [])
        length_short h =
            let m : at + 1 + length_bytes cut_length.form - length joined ≡ missing - length more = omega (arith, longer, cut_length.ends) in
            call_same false bytes n 14 (place ∷ missing ∷ []) r
            ∙ length_cut joined at cut_length.form opens_length false l (omega (arith, longer, cut_length.inside)) (omega (arith, longer, cut_length.ends))
            ∙ rw (m, told_length.0)

        length_there : missing ≤ length more → (values : List ℕ) → call false joined n ≡ refuses 14 values → ⊥
        length_there h values e =
            let t = (length_cut_exactly false joined l at values).0 (sym (call_same false bytes n 14 (place ∷ missing ∷ []) r) ∙ e) in
            let c = t.2 in
            let z : ◌≡◌ {A = Sort} (sort.push c.form) (sort.push cut_length.form) = sym c.opens ∙ opens_length in
            let f : c.form ≡ cut_length.form = cc in
            let w : at + 1 + length_bytes cut_length.form ≡ length joined + t.0 = rw f at c.ends in
            omega (arith, longer, w, c.short, cut_length.ends)

      -- its body was
      module _ (place missing : ℕ) (r : call false s n ≡ refuses 15 (place ∷ missing ∷ [])) where
        told_body : (place ≡ at) × CutBody false s at missing
        told_body =
            let t = (body_cut_exactly false s small at (place ∷ missing ∷ [])).0 r in
            let m : t.0 ≡ missing = let v = t.1 in cc in
            (let v = t.1 in cc, rw m at t.2)

        abbrev cut : CutBody false s at missing
        cut = told_body.1

        abbrev start : ℕ
        start = at + 1 + length_bytes cut.form

        opens_body : sort_of (get_or joined at 0) ≡ sort.push cut.form
        opens_body = sort_same at (sort.push cut.form) cut.inside cut.opens

        says_same : stated (length_bytes cut.form) joined at ≡ stated (length_bytes cut.form) s at
        says_same = stated_same cut.form at cut.inside cut.there

        body_there : missing ≤ length more → PushTo joined n place (length s + missing)
        body_there h =
            record {
              form = cut.form;
              body = start;
              len = stated (length_bytes cut.form) joined at;
              hands =
                  call_same false bytes n 15 (place ∷ missing ∷ []) r
                  ∙ whole_push joined at cut.form opens_body false l (omega (arith, longer, cut.inside)) (omega (arith, longer, cut.there))
                  (omega (arith, longer, says_same, cut.ends, cut.there))
                  ∙ ap (λ (q : ℕ). answers (found (push q cut.form start (stated (length_bytes cut.form) joined at)))) (sym told_body.0);
              ends = omega (arith, says_same, cut.ends);
            }

        body_short : length more < missing → call false joined n ≡ refuses 15 (place ∷ (missing - length more) ∷ [])
        body_short h =
            let m : stated (length_bytes cut.form) joined at - (length joined - start) ≡ missing - length more = omega (arith, longer, says_same, cut.ends, cut.there) in
            call_same false bytes n 15 (place ∷ missing ∷ []) r
            ∙ body_cut joined at cut.form opens_body false l (omega (arith, longer, cut.inside)) (omega (arith, longer, cut.there))
            (omega (arith, longer, says_same, cut.ends, cut.there))
            ∙ rw (m, told_body.0)

      -- Plain mode, a script of bytes, and within the limit with what is put behind it: a refused body is handed out once its missing bytes are there, a
      -- refused length is no longer cut, and with fewer bytes as many fewer are missing.
      pub mended : Mended s more n
      mended = record { body_there = body_there; body_short = body_short; length_there = length_there; length_short = length_short }
