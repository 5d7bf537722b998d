-- One turn of the writer: what the text goes on with at a place, by what is cut there. Assumes nothing.
use mathlib.Core.Path.{◌≡◌, refl, sym, ap, ◌∙◌}
use mathlib.Core.List.{List, [], ◌++◌, append_assoc}
use Prim.Native.Nat.{ℕ, zero, suc, ◌+◌, ◌-◌, ◌≤◌, ◌<◌}
use native.Mathlib.Nat.{min-eq_left, min-eq_right}
use native.Mathlib.Omega.{arith}
use borrow.Author.Tests.{lt-ltb, le-ltb, le-leb, lt-leb}
use mathlib.Core.Logic.{⊎_elim}
use lib.Dec.{ltb}
use lib.ListN.{length, get_or, take, drop}
use Rattle.std.specs.Prelude.{if◌then◌else◌}
use Rattle.laws.proofs.Test.{lt_or_le}
use Rattle.opcodes.specs.Opcode.{sort_of, length_bytes_after}
use Rattle.pool.specs.Text.{text}
use Rattle.script.specs.Script.{read_le}
use Rattle.opcodes.specs.Core.{OP_PUSHDATA1}
use Rattle.asm.specs.Asm.{opcode_text, data_text, space_at, data_at, data_len, body_text, text_at, next_place, text_for, text_from}

-- where a turn ends, it is further on
goes_on : (s : List ℕ) (at : ℕ) → at < length s → at < next_place s at
unfolding next_place data_at
goes_on s at h =
    let next : ℕ = data_at s at + data_len s at in
    ⊎_elim
    (λ (l : length s < next). let m : length s ≤ next = omega arith in rw (min-eq_left m) h)
    (λ (g : next ≤ length s). rw (min-eq_right g) (omega arith))
    (lt_or_le (length s) next)

module _ (s : List ℕ) where
  past : (n at : ℕ) → length s ≤ at → text_for n s at ≡ []
  unfolding text_for
  past zero at h = refl
  past (suc n) at h = rw (le-leb (length s) at h)

  inside : (n at : ℕ) → at < length s → text_for (suc n) s at ≡ text_at s at ++ text_for n s (next_place s at)
  unfolding text_for
  inside n at h = rw (lt-leb (length s) at h)

  enough : (n k at : ℕ) → length s - at ≤ n → length s - at ≤ k → text_for n s at ≡ text_for k s at
  unfolding text_for
  enough zero k at a b = sym (past k at (omega arith))
  enough (suc n) zero at a b = past (suc n) at (omega arith)
  enough (suc n) (suc k) at a b =
      ⊎_elim
      (λ (h : at < length s).
      let g = goes_on s at h in
      inside n at h ∙ ap (λ (l : List ℕ). text_at s at ++ l) (enough n k (next_place s at) (omega arith) (omega arith)) ∙ sym (inside k at h))
      (λ (h : length s ≤ at). past (suc n) at h ∙ sym (past (suc k) at h))
      (lt_or_le at (length s))

  -- As many turns as bytes are left at a place are enough: more change nothing.
  pub text_turns : (turns at : ℕ) → length s - at ≤ turns → text_for turns s at ≡ text_from s at
  unfolding text_from
  text_turns turns at h = enough turns (length s - at) at h (omega arith)

  pub ends : (at : ℕ) → length s ≤ at → text_from s at ≡ []
  unfolding text_from
  ends at h = past (length s - at) at h

  pub turn : (at : ℕ) → at < length s → text_from s at ≡ text_at s at ++ text_from s (next_place s at)
  unfolding text_from
  turn at h =
      let e : length s - at ≡ suc (length s - at - 1) = omega arith in
      let g = goes_on s at h in
      ap (λ (n : ℕ). text_for n s at) e ∙ inside (length s - at - 1) at h
      ∙ ap (λ (l : List ℕ). text_at s at ++ l) (text_turns (length s - at - 1) (next_place s at) (omega arith))

  -- what follows the name of the instruction at a place
  abbrev pub behind : ℕ → List ℕ
  behind at = body_text s (data_at s at) (data_len s at) ++ text_from s (next_place s at)

  -- the instruction at a place, whose length bytes are k and state the length of its data
  module _ (at : ℕ) (h : at < length s) {k : ℕ} (is : k ≡ length_bytes_after (sort_of (get_or s at 0))) where
    starts : data_at s at ≡ at + 1 + k
    unfolding data_at
    starts = rw is

    pub says : {stated len : ℕ} → stated ≡ read_le k s (at + 1) → len ≡ (if ltb (get_or s at 0) OP_PUSHDATA1 then get_or s at 0 else stated) → len ≡ data_len s at
    unfolding data_len
    says e l = rw (l, e, is)

    -- the length bytes are cut
    pub length_cut : length s < at + 1 + k → text_from s at ≡ text "<unexpected end>"
    unfolding text_at next_place
    length_cut c =
        let c₁ : length s < data_at s at = rw starts c in
        let m : length s ≤ data_at s at + data_len s at = omega arith in
        turn at h ∙ rw (lt-ltb (length s) (data_at s at) c₁, min-eq_left m, ends (length s) (omega arith))

    module _ (there : at + 1 + k ≤ length s) where
      -- the name is written
      pub opened : text_from s at ≡ space_at at ++ (opcode_text (get_or s at 0) ++ behind at)
      unfolding text_at
      opened =
          let c : data_at s at ≤ length s = rw starts there in
          turn at h
          ∙ rw (le-ltb (length s) (data_at s at) c)
          (append_assoc (space_at at) _ _ ∙ ap (λ (x : List ℕ). space_at at ++ x) (append_assoc (opcode_text (get_or s at 0)) _ _))

      module _ {len : ℕ} (l : len ≡ data_len s at) where
        -- the body is cut
        pub behind_cut : length s - (at + 1 + k) < len → behind at ≡ text " <push past end>"
        unfolding next_place body_text
        behind_cut c =
            let m : length s ≤ at + 1 + k + len = omega arith in
            rw (starts, sym l, lt-ltb (length s - (at + 1 + k)) len c, min-eq_left m, ends (length s) (omega arith))

        -- it is whole
        pub behind_whole : len ≤ length s - (at + 1 + k) → behind at ≡ data_text (take len (drop (at + 1 + k) s)) ++ text_from s (at + 1 + k + len)
        unfolding next_place body_text
        behind_whole c =
            let m : at + 1 + k + len ≤ length s = omega arith in
            rw (starts, sym l, le-ltb (length s - (at + 1 + k)) len c, min-eq_right m)
