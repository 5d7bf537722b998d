-- A push uses the shortest length form: the chosen form can state the length, and no form that can has a shorter encoding. The more length bytes a
-- form has, the more it can state. Assumes nothing.
use mathlib.Core.List.{List}
use Prim.Native.Nat.{ℕ, ◌≤◌, ◌<◌}
use native.Mathlib.Omega.{arith}
use borrow.Author.Tests.{leb-true, leb-false}
use lib.Dec.{leb}
use lib.ListN.{length}
use Rattle.laws.proofs.Test.{by_test}
use Rattle.opcodes.specs.Opcode.{PushForm, direct, pushdata1, pushdata2, pushdata4, length_bytes}
use Rattle.script.specs.Instruction.{push, most_stated, encode}
use Rattle.script.proofs.Encoding.{encode_length}
use Rattle.building.specs.Builder.{push_form}

-- the chosen form, by the tests that choose it
by_form : (len : ℕ) (P : PushForm → Type 0) → (len ≤ 75 → P direct) → (75 < len → len ≤ 0xff → P pushdata1) → (0xff < len → len ≤ 0xffff → P pushdata2)
    → (0xffff < len → P pushdata4) → P (push_form len)
by_form len P d p q r =
    by_test P (leb len 75) (λ e. d (leb-true len 75 e)) λ e₀.
    by_test P (leb len 0xff) (λ e. p (leb-false len 75 e₀) (leb-true len 0xff e)) λ e₁.
    by_test P (leb len 0xffff) (λ e. q (leb-false len 0xff e₁) (leb-true len 0xffff e)) λ e₂. r (leb-false len 0xffff e₂)

-- The chosen form can state every length that some form can.
pub form_states : (len : ℕ) → len ≤ 0xffff_ffff → len ≤ most_stated (push_form len)
form_states len h = by_form len (λ form. len ≤ most_stated form) (λ a. a) (λ a b. b) (λ a b. b) (λ a. h)

few_bytes : (len : ℕ) (form : PushForm) → len ≤ most_stated form → length_bytes (push_form len) ≤ length_bytes form
few_bytes len direct h =
    by_form len (λ f. length_bytes f ≤ 0) (λ a. omega arith) (λ a b. omega arith) (λ a b. omega arith) (λ a. omega arith)
few_bytes len pushdata1 h =
    by_form len (λ f. length_bytes f ≤ 1) (λ a. omega arith) (λ a b. omega arith) (λ a b. omega arith) (λ a. omega arith)
few_bytes len pushdata2 h =
    by_form len (λ f. length_bytes f ≤ 2) (λ a. omega arith) (λ a b. omega arith) (λ a b. omega arith) (λ a. omega arith)
few_bytes len pushdata4 h =
    by_form len (λ f. length_bytes f ≤ 4) (λ a. omega arith) (λ a b. omega arith) (λ a b. omega arith) (λ a. omega arith)

-- No form that can state the body's length has a shorter encoding than the chosen one.
pub shortest_form : (form : PushForm) (body : List ℕ) → length body ≤ most_stated form
    → length (encode (push (push_form (length body)) body)) ≤ length (encode (push form body))
shortest_form form body h =
    omega (
      arith,
      encode_length (push (push_form (length body)) body),
      encode_length (push form body),
      few_bytes (length body) form h,
    )
