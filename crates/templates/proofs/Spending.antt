-- The script code is stored in three runs: three bytes, the hash, two bytes. Assumes nothing.
use mathlib.Core.Path.{◌≡◌, refl, sym, ap, ◌∙◌}
use mathlib.Core.Bool.{true, ◌&&◌}
use Rattle.std.specs.Prelude.{Option, Some}
use mathlib.Core.List.{List, [], ◌∷◌, ◌++◌}
use Prim.Native.Nat.{ℕ, ◌+◌, ◌-◌, ◌≤◌, ◌<◌}
use native.Mathlib.Omega.{arith}
use borrow.Author.Tests.{le-ltb, le-leb, lt-leb, eqb-true}
use lib.Dec.{leb, eqb}
use lib.ListN.{length, drop, set, length-append, length-drop}
use lib.Seq.{sets}
use Rattle.std.specs.Prelude.{if◌then◌else◌}
use Rattle.laws.specs.Said.{Said, answers, refuses}
use Rattle.laws.specs.Buffer.{after}
use Rattle.laws.proofs.Stored.{stored_both, stored_front}
use Rattle.refusal.specs.Refusal.{limit}
use Rattle.fixed.specs.Fixed.{version_of, is_program_of, code_for, script_code, is_witness_program}
use Rattle.templates.specs.Says.{as_some, code_says}
use Rattle.laws.proofs.Test.{and_right}

module _ (s : List ℕ) (n : length s ≡ 22) where
  abbrev hash : List ℕ
  hash = drop 2 s

  hash_length : length hash ≡ 20
  hash_length = simp length-drop (omega arith)

  pub code_length : length (code_for hash) ≡ 25
  code_length = simp (length-append, length-drop) (omega arith)

  -- what stands behind the opcodes and the hash, one store after the other
  pub code_stored : (old : List ℕ) → 25 ≤ length old → {out : List ℕ} → out ≡ sets (set (set (set old 0 0x76) 1 0xa9) 2 0x14) 3 hash
      → set (set out 23 0x88) 24 0xac ≡ code_for hash ++ drop 25 old
  code_stored old room e =
      let opened = set (set (set old 0 0x76) 1 0xa9) 2 0x14 in
      let p : 3 + length hash ≡ 23 = omega (arith, hash_length) in
      ap (λ (l : List ℕ). set (set l 23 0x88) 24 0xac) e
      ∙ ap (λ (k : ℕ). sets (sets opened 3 hash) k (0x88 ∷ 0xac ∷ [])) (sym p)
      ∙ sym (stored_both opened 3 hash (0x88 ∷ 0xac ∷ []))
      ∙ stored_front (code_for hash) old (omega (arith, code_length))
      ∙ ap (λ (k : ℕ). code_for hash ++ drop k old) code_length

-- ---- the answers of `p2wpkh_script_code`

pub code_size : (s : List ℕ) → is_program_of 0 20 s ≡ true → length s ≡ 22
unfolding is_program_of
code_size s e = omega (arith, eqb-true (length s - 2) 20 (and_right (is_witness_program s && eqb (version_of s) 0) (eqb (length s - 2) 20) e))

module _ (s old : List ℕ) where
  abbrev says : Said (Option ℕ)
  says = code_says s (length old)

  module _ (l : length s ≤ limit) where
    module _ (e : is_program_of 0 20 s ≡ true) where
      code_says_lem : says ≡ as_some (if leb 25 (length old) then answers 25 else refuses 7 (25 ∷ []))
      unfolding code_says script_code
      code_says_lem = rw (le-ltb limit (length s) l, e, code_length s (code_size s e))

      code_is : script_code s ≡ code_for (drop 2 s)
      unfolding script_code
      code_is = rw e

      -- the buffer is short
      pub code_short : length old < 25 → (refuses 7 (25 ∷ []) ≡ says) × (old ≡ after says (script_code s) old)
      code_short h = rw (code_says_lem, lt-leb 25 (length old) h) (refl, refl)

      -- all is written
      pub code_written : {new : List ℕ} → 25 ≤ length old → new ≡ code_for (drop 2 s) ++ drop 25 old
          → (answers (Some 25) ≡ says) × (new ≡ after says (script_code s) old)
      code_written h w = rw (code_says_lem, le-leb 25 (length old) h, code_is) (refl, w ∙ ap (λ k. code_for (drop 2 s) ++ drop k old) (sym (code_length s (code_size s e))))
