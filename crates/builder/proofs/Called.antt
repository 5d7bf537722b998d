-- What a call on a good builder leaves, where the last byte is replaced and where bytes are taken over. Assumes nothing.
use mathlib.Core.Path.{◌≡◌, sym, ap, ◌∙◌}
use mathlib.Core.Bool.{false}
use mathlib.Core.List.{List, [], ◌∷◌, ◌++◌}
use Rattle.std.specs.Prelude.{Option, None, Some}
use Prim.Native.Nat.{ℕ, ◌-◌, ◌<◌}
use native.Mathlib.Omega.{arith}
use borrow.Author.Tests.{eqb-false, le-ltb}
use lib.Dec.{eqb}
use lib.ListN.{length, take, drop, set, length-append, take-append-drop}
use lib.Seq.{length-take-le, take-take}
use Rattle.laws.specs.Said.{answers}
use Rattle.refusal.specs.Refusal.{limit}
use Rattle.refusal.specs.Answer.{said}
use Rattle.building.specs.Builder.{Call, verify_form, push_verify, last_if_opcode, takes_over}
use Rattle.building.specs.Lent.{not_last, builder_says, built_says, calls}
use Rattle.building.proofs.Passed.{neither, good_used}
use Rattle.laws.proofs.Stored.{stored}

-- a builder and its buffer
module _ (used : ℕ) (remembered : Option ℕ) (buffer : List ℕ) where
  -- two calls that make the same of this builder leave the same
  pub same_call : (f g : Call) → f (record { bytes = take used buffer; remembered = remembered }) ≡ g (record { bytes = take used buffer; remembered = remembered })
      → calls f used remembered buffer ≡ calls g used remembered buffer
  unfolding calls
  same_call f g e = rw e

  module _ (good : builder_says used remembered buffer ≡ answers tt) where
    used_length : length (take used buffer) ≡ used
    used_length = length-take-le used buffer (good_used used remembered buffer good).1

    -- what is as long as before fits
    still_fits : built_says used (length buffer) ≡ answers tt
    unfolding built_says
    still_fits = simp (le-ltb limit used (good_used used remembered buffer good).0, le-ltb (length buffer) used (good_used used remembered buffer good).1)

    -- ---- the last byte, replaced
    module _ (code : ℕ) (form : verify_form remembered ≡ Some code) where
      some_used : 0 < used
      some_used = go remembered form (good_used used remembered buffer good).2
        where
          go : (m : Option ℕ) → verify_form m ≡ Some code → not_last m used buffer ≡ false → 0 < used
          go None f l = absurd (let z : ◌≡◌ {A = ℕ} 0 1 = cc in omega arith)
          go (Some x) f l = omega (arith, eqb-false used 0 (neither (eqb used 0) _ l).0)

      pub replaced : record { said = answers tt; used = used; remembered = Some code; buffer = set buffer (used - 1) code } ≡ calls push_verify used remembered buffer
      unfolding calls push_verify
      replaced =
          let n : length (take (used - 1) buffer ++ (code ∷ [])) ≡ used = simp (length-append, length-take-le (used - 1) buffer (omega (arith, good_used used remembered buffer good))) (omega (arith, some_used)) in
          let b : set buffer (used - 1) code ≡ (take (used - 1) buffer ++ (code ∷ [])) ++ drop used buffer = stored buffer (used - 1) (code ∷ []) (omega (arith, good_used used remembered buffer good, some_used)) ∙ rw n in
          rw (good, form, used_length, take-take (used - 1) used buffer (omega arith), n, still_fits, n, b)

-- ---- bytes that are taken over
module _ (used : ℕ) (buffer : List ℕ) (good : builder_says used None buffer ≡ answers tt) where
  pub taken_over : record { said = answers tt; used = used; remembered = last_if_opcode (take used buffer); buffer = buffer } ≡ calls takes_over used None buffer
  unfolding calls
  taken_over =
      let n = used_length used None buffer good in
      ap (λ (x : List ℕ). record { said = answers tt; used = used; remembered = last_if_opcode (take used buffer); buffer = x }) (sym (take-append-drop used buffer))
      ∙ rw (good, n, still_fits used None buffer good, n)
