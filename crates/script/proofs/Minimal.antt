-- CheckMinimalPush and document 01's words for minimal mode judge a whole push alike. Assumes nothing.
use mathlib.Core.Path.{◌≡◌, refl, sym}
use mathlib.Core.Logic.{⊎_elim}
use mathlib.Core.Bool.{Bool, true, false, not, ◌&&◌, ◌||◌}
use mathlib.Core.List.{List}
use Prim.Native.Nat.{ℕ, ◌≤◌, ◌<◌}
use native.Mathlib.Omega.{arith}
use borrow.Author.Tests.{lt-ltb, le-ltb, le-leb, eq-eqb, ne_eqb, leb-true, leb-false, eqb-true}
use lib.Dec.{ltb, leb, eqb}
use lib.ListN.{length, get_or}
use Rattle.std.specs.Prelude.{if◌then◌else◌}
use Rattle.laws.proofs.Test.{by_test, lt_or_le}
use Rattle.opcodes.specs.Opcode.{PushForm, direct, pushdata1, pushdata2, pushdata4}
use Rattle.script.specs.Script.{check_minimal_push}
use Rattle.script.specs.Walk.{not_minimal}
use Rattle.script.specs.Instruction.{push, most_stated, wasteful}

-- the opcode byte of a push, by its form
abbrev pub IsOf : PushForm → ℕ → Type 0
IsOf direct b = b < 76
IsOf pushdata1 b = b ≡ 76
IsOf pushdata2 b = b ≡ 77
IsOf pushdata4 b = b ≡ 78

left : (a b : Bool) → (a && b) ≡ true → a ≡ true
left true b e = refl
left false b e = e

turned : (x y : Bool) → not (if x then false else if y then false else true) ≡ (y || x)
turned true true = refl
turned true false = refl
turned false true = refl
turned false false = refl

-- a direct push: only one byte that a number opcode pushes
direct_check : (code : ℕ) (v : List ℕ) → code ≡ length v → code < 76 → not (check_minimal_push v code) ≡ wasteful (push direct v)
unfolding check_minimal_push
direct_check code v e h =
    ⊎_elim
    (λ z. simp (eq-eqb (length v) 0 (omega arith), eq-eqb code 0 (omega arith), ne_eqb (length v) 1 (omega arith)))
    (λ p. ⊎_elim
    (λ o. simp (ne_eqb (length v) 0 (omega arith), eq-eqb (length v) 1 (omega arith), le-leb (length v) 75 (omega arith), eq-eqb code (length v) e) (turned (leb 1 (get_or v 0 0) && leb (get_or v 0 0) 16) (eqb (get_or v 0 0) 0x81)))
    (λ m. simp (ne_eqb (length v) 0 (omega arith), ne_eqb (length v) 1 (omega arith), le-leb (length v) 75 (omega arith), eq-eqb code (length v) e))
    (lt_or_le (length v) 2))
    (lt_or_le (length v) 1)

-- a push with length bytes: one that says less than its form must
form_check : (code least : ℕ) (v : List ℕ) → 76 ≤ code → 76 ≤ least
    → (75 < length v → length v ≤ 255 → not (eqb code 76) ≡ ltb (length v) least)
    → (255 < length v → length v ≤ 65535 → not (eqb code 77) ≡ ltb (length v) least)
    → (65535 < length v → false ≡ ltb (length v) least)
    → not (check_minimal_push v code) ≡ ltb (length v) least
unfolding check_minimal_push
form_check code least v c l one two four =
    let n : ℕ = length v in
    let P : Bool → Type 0 = λ b. not b ≡ ltb n least in
    by_test P (eqb n 0) (λ e. rw (ne_eqb code 0 (omega arith), lt-ltb n least (omega (arith, eqb-true n 0 e)))) λ e₀.
    by_test P (eqb n 1 && (leb 1 (get_or v 0 0) && leb (get_or v 0 0) 16)) (λ e. sym (lt-ltb n least (omega (arith, eqb-true n 1 (left _ _ e))))) λ e₁.
    by_test P (eqb n 1 && eqb (get_or v 0 0) 0x81) (λ e. sym (lt-ltb n least (omega (arith, eqb-true n 1 (left _ _ e))))) λ e₂.
    by_test P (leb n 75) (λ e. let h = leb-true n 75 e in rw (ne_eqb code n (omega arith), lt-ltb n least (omega arith))) λ e₃.
    by_test P (leb n 255) (λ e. one (leb-false n 75 e₃) (leb-true n 255 e)) λ e₄.
    by_test P (leb n 65535) (λ e. two (leb-false n 255 e₄) (leb-true n 65535 e)) (λ e. four (leb-false n 65535 e))

-- the judgement is the same for every form
pub minimal_same : (form : PushForm) (code : ℕ) (v : List ℕ) → IsOf form code → (form ≡ direct → code ≡ length v) → length v ≤ most_stated form
    → not_minimal code v ≡ wasteful (push form v)
unfolding not_minimal
minimal_same direct code v o e m = rw (le-leb code 78 (omega arith)) (direct_check code v (e refl) o)
minimal_same pushdata1 code v o e m =
    let n : ℕ = length v in
    rw o (form_check 76 76 v (omega arith) (omega arith) (λ a b. sym (le-ltb n 76 (omega arith))) (λ a b. absurd (omega arith)) (λ a. absurd (omega arith)))
minimal_same pushdata2 code v o e m =
    let n : ℕ = length v in
    rw o (form_check 77 0x100 v (omega arith) (omega arith) (λ a b. sym (lt-ltb n 0x100 (omega arith))) (λ a b. sym (le-ltb n 0x100 (omega arith))) (λ a. absurd (omega arith)))
minimal_same pushdata4 code v o e m =
    let n : ℕ = length v in
    rw o (form_check 78 0x10000 v (omega arith) (omega arith) (λ a b. sym (lt-ltb n 0x10000 (omega arith))) (λ a b. sym (lt-ltb n 0x10000 (omega arith))) (λ a. sym (le-ltb n 0x10000 (omega arith))))
