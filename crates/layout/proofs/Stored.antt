-- A push is stored in three runs: an opcode byte, its length bytes, its body; and what that leaves behind the used bytes. Assumes nothing.
use mathlib.Core.Path.{◌≡◌, refl, sym, ap, ◌∙◌}
use mathlib.Core.List.{List, ◌∷◌, ◌++◌, append_assoc}
use Prim.Native.Nat.{ℕ, suc, ◌+◌, ◌≤◌}
use native.Mathlib.Numerals.{add-one}
use native.Mathlib.Omega.{arith}
use borrow.Rule.Slice.PartMut.{put_mid}
use lib.ListN.{length, take, set, length-append}
use lib.Seq.{sets, sets-eq, drop-drop}
use Rattle.laws.specs.Said.{Said, answers, refuses, unless}
use Rattle.laws.specs.Buffer.{after}
use Rattle.laws.proofs.Stored.{stored, stored_both}
use Rattle.refusal.specs.Refusal.{said_refusal}
use Rattle.refusal.specs.Answer.{said}
use Rattle.refusal.specs.declared.Refusal.{Refusal}
use Rattle.building.specs.Lent.{built_says}
use Rattle.building.proofs.Passed.{built_fits}
use Rattle.layout.specs.Laid.{laid_says}
use Rattle.script.specs.Instruction.{write_le}
use Rattle.script.proofs.Encoding.{write_length}
use Rattle.std.specs.Prelude.{Result, Ok, Err}

pub pushed : (l : List ℕ) (at code k n : ℕ) (xs : List ℕ)
    → sets (sets (set l at code) (at + 1) (write_le k n)) (at + 1 + k) xs ≡ sets l at (code ∷ (write_le k n ++ xs))
pushed l at code k n xs =
    let m = set l at code in
    rw add-one (ap (λ (j : ℕ). sets (sets m (suc at) (write_le k n)) (suc at + j) xs) (sym (write_length k n)) ∙ sym (stored_both m (suc at) (write_le k n) xs))

-- a part of a buffer, written over
pub part_written : (l w : List ℕ) (i k : ℕ) → k ≡ length w → i + k ≤ length l → put_mid i k l w ≡ sets l i w
part_written l w i k e h =
    let r : i + length w ≤ length l = omega arith in
    rw (e, drop-drop, sets-eq w l i r, append_assoc)

pub pushed_length : (code k n : ℕ) (xs : List ℕ) → length (code ∷ (write_le k n ++ xs)) ≡ 1 + k + length xs
pushed_length code k n xs = simp (length-append, write_length) (omega arith)

-- what `fits` answered, of bytes that are to be laid behind the used ones
module _ (buffer new : List ℕ) (used : ℕ) {size : ℕ} (a : Result ℕ Refusal) (sized : size ≡ used + length new)
    (e : said a ≡ unless (built_says size (length buffer)) (answers size)) where
  is_laid : said a ≡ laid_says used new (length buffer)
  is_laid = e ∙ ap (λ (n : ℕ). unless (built_says n (length buffer)) (answers n)) sized

  pub not_laid : {why : Refusal} → a ≡ Err why
      → (said_refusal why ≡ laid_says used new (length buffer)) × (buffer ≡ after (laid_says used new (length buffer)) (take used buffer ++ new) buffer)
  not_laid {why} d =
      let h : said_refusal why ≡ laid_says used new (length buffer) = ap said (sym d) ∙ is_laid in
      (h, ap (λ (x : Said ℕ). after x (take used buffer ++ new) buffer) h)

  pub room_laid : {n : ℕ} → a ≡ Ok n → used + length new ≤ length buffer
  room_laid {n} d = built_fits _ _ (go (built_says (used + length new) (length buffer)) refl (ap said (sym d) ∙ is_laid))
    where
      go : (b : Said (Unit {0})) → built_says (used + length new) (length buffer) ≡ b → answers n ≡ unless b (answers (used + length new))
          → built_says (used + length new) (length buffer) ≡ answers tt
      go (answers done) h f = h
      go (refuses number values) h f = absurd (let z : ◌≡◌ {A = ℕ} 0 1 = cc in omega arith)

  pub all_laid : {n : ℕ} {out : List ℕ} → a ≡ Ok n → out ≡ sets buffer used new
      → (answers n ≡ laid_says used new (length buffer)) × (out ≡ after (laid_says used new (length buffer)) (take used buffer ++ new) buffer)
  all_laid {n} d s =
      let h : answers n ≡ laid_says used new (length buffer) = ap said (sym d) ∙ is_laid in
      (h, s ∙ stored buffer used new (room_laid d) ∙ ap (λ (x : Said ℕ). after x (take used buffer ++ new) buffer) h)
