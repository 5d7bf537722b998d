-- With k permitted bytes the strict reader takes exactly what `serialize` gives for the numbers of a size below 2 ^ (8 * k - 1), answers
-- that number, and refuses other bytes with 5: both sides are `Coded`, which settles the bytes by sign and magnitude, and no bytes that are
-- read as the same number are fewer. Assumes nothing.
use mathlib.Core.Path.{◌≡◌, refl, sym, ap, ◌∙◌}
use mathlib.Core.Logic.{◌↔◌, ⊎_elim}
use mathlib.Core.Bool.{Bool, true, false, true≢false}
use mathlib.Core.List.{List, [], ◌∷◌}
use Prim.Native.Nat.{ℕ, ◌-◌, ◌*◌, ◌/◌, ◌^◌, ◌≤◌, ◌<◌}
use native.Mathlib.Omega.{arith}
use borrow.Author.Tests.{le-ltb, lt-leb, le-leb, ltb-true, ltb-false}
use lib.Dec.{ltb, leb, leb→le, le→leb}
use lib.IntN.{ℤ, pos, negsuc, neg_ℤ, nat_abs}
use lib.ListN.{length}
use lib.Signed.{◌≤ℤ◌}
use Rattle.std.specs.Prelude.{if◌then◌else◌}
use Rattle.laws.specs.Said.{answers, refuses}
use Rattle.laws.proofs.Test.{lt_or_le, and_left}
use Rattle.numbers.specs.ScriptNum.{serialize, back, non_minimal, set_vch, n_default_max_num_size, script_num}
use Rattle.numbers.proofs.Coded.{Coded, Bytes, bit, bit_is, positive, one_coding}
use Rattle.numbers.proofs.Reading.{magnitude_of, set_vch_is, minimal_coded, magnitude_is, sign_is, coded_minimal, none_fewer}
use Rattle.numbers.proofs.Written.{signed, by_sign, signed_size, serialize_zero, serialize_coded, serialize_bytes, serialize_short, serialize_small, serialize_empty}

answer : (a b : Bool) (x n : ℤ) → (if a then refuses 4 [] else if b then refuses 5 [] else answers x) ≡ answers n → (a ≡ false) × (b ≡ false) × (x ≡ n)
answer true b x n e = absurd (let z : ◌≡◌ {A = ℕ} 0 1 = cc in omega arith)
answer false true x n e = absurd (let z : ◌≡◌ {A = ℕ} 0 1 = cc in omega arith)
answer false false x n e = (refl, refl, cc)

bit_of : (b : ℕ) → b < 256 → b / 128 * 128 ≡ bit (leb 128 b)
bit_of b h = ⊎_elim (λ l. rw (lt-leb 128 b l) (omega arith)) (λ (g : 128 ≤ b). rw (le-leb 128 b g) (omega arith)) (lt_or_le b 128)

leb_bit : (neg : Bool) → leb 128 (bit neg) ≡ neg
leb_bit true = refl
leb_bit false = refl

-- ---- what is minimal was written, and what is written is minimal and is read back

minimal_written : (v : List ℕ) → Bytes v → non_minimal v ≡ false → serialize (set_vch v) ≡ v
unfolding set_vch
minimal_written [] h e = serialize_zero
minimal_written (b ∷ v) h e =
    let neg = leb 128 (back (b ∷ v)) in
    let m = magnitude_of (b ∷ v) in
    let f : Coded (bit neg) m (b ∷ v) = rw (bit_of (back (b ∷ v)) (h (length (b ∷ v) - 1))) at (minimal_coded b v h e) in
    rw set_vch_is (one_coding (serialize_coded neg m (positive f)) f)

not_empty : (v : List ℕ) → non_minimal v ≡ true → 1 ≤ length v
unfolding non_minimal
not_empty v e = ltb-true 0 (length v) (and_left _ _ e)

written_minimal : (n : ℤ) → non_minimal (serialize n) ≡ false
unfolding non_minimal
written_minimal = by_sign (λ n. non_minimal (serialize n) ≡ false) (rw serialize_zero) (λ neg m p. coded_minimal (bit_is neg) (serialize_coded neg m p))

-- The loose reading of what is written for a number is that number.
pub reads_back : (n : ℤ) → set_vch (serialize n) ≡ n
unfolding set_vch
reads_back =
    by_sign (λ n. set_vch (serialize n) ≡ n) (rw serialize_zero)
    (λ neg m p.
    let f = serialize_coded neg m p in
    rw (set_vch_is _ (serialize_bytes (signed neg m)), sign_is (bit_is neg) f, leb_bit neg, magnitude_is (bit_is neg) f))

-- The writer uses the fewest bytes: whatever bytes the loose reading reads as the same number, they are no fewer.
pub fewest_bytes : (n : ℤ) (v : List ℕ) → Bytes v → set_vch v ≡ n → length (serialize n) ≤ length v
fewest_bytes n v h e =
    let neg = leb 128 (back v) in
    let m = magnitude_of v in
    let s : signed neg m ≡ n = sym (set_vch_is v h) ∙ e in
    rw (← s)
    (⊎_elim (λ (p : 0 < m). none_fewer (serialize_coded neg m p) v h refl)
    (λ (z : m ≤ 0). rw (serialize_empty (signed neg m) (rw signed_size (omega arith))) (omega arith)) (lt_or_le 0 m))

-- ---- the strict reader

taken : (k : ℕ) (v : List ℕ) (n : ℤ) → Bytes v → script_num k true v ≡ answers n → (nat_abs n < 2 ^ (8 * k - 1)) × (v ≡ serialize n)
unfolding script_num
taken k v n h e =
    let a = answer (ltb k (length v)) (non_minimal v) (set_vch v) n e in
    let w : v ≡ serialize n = sym (minimal_written v h a.1) ∙ ap serialize a.2 in
    (serialize_small k n (rw w at (ltb-false k (length v) a.0)), w)

takes : (k : ℕ) (n : ℤ) → nat_abs n < 2 ^ (8 * k - 1) → script_num k true (serialize n) ≡ answers n
unfolding script_num
takes k n h = rw (le-ltb k (length (serialize n)) (serialize_short k n h), written_minimal n, reads_back n)

-- for every k: at 0 the difference is 0, and 0 is the only number
pub strict_exact :
    (k : ℕ) (v : List ℕ) (n : ℤ) →
    (Bytes v → script_num k true v ≡ answers n → (nat_abs n < 2 ^ (8 * k - 1)) × (v ≡ serialize n)) ×
    (nat_abs n < 2 ^ (8 * k - 1) → v ≡ serialize n → script_num k true v ≡ answers n)
strict_exact k v n = (taken k v n, λ h e. rw e (takes k n h))

abbrev Ranged : ℤ → Type 0
Ranged n = (neg_ℤ (pos 2147483647) ≤ℤ n) × (n ≤ℤ pos 2147483647)

ranged : (n : ℤ) → nat_abs n < 2 ^ 31 → Ranged n
ranged (pos n) h = (record { le = tt }, record { le = le→leb n 2147483647 (omega arith) })
ranged (negsuc n) h = (record { le = le→leb n 2147483646 (omega arith) }, record { le = tt })

size_of_ranged : (n : ℤ) → Ranged n → nat_abs n < 2 ^ 31
size_of_ranged (pos n) r = omega (arith, leb→le n 2147483647 r.1.le)
size_of_ranged (negsuc n) r = omega (arith, leb→le n 2147483646 r.0.le)

-- the case of four bytes, which `read_scriptint` answers
pub strict_exact_4 :
    (v : List ℕ) (n : ℤ) →
    (Bytes v → script_num 4 true v ≡ answers n → (neg_ℤ (pos 2147483647) ≤ℤ n) × (n ≤ℤ pos 2147483647) × (v ≡ serialize n)) ×
    (neg_ℤ (pos 2147483647) ≤ℤ n → n ≤ℤ pos 2147483647 → v ≡ serialize n → script_num 4 true v ≡ answers n)
strict_exact_4 v n = (
  λ h e.
      let t = taken 4 v n h e in
      let r = ranged n t.0 in
      (r.0, r.1, t.1),
  λ a b e. (strict_exact 4 v n).1 (size_of_ranged n (a, b)) e,
)

five : (a b : Bool) (x : ℤ) → (if a then refuses 4 [] else if b then refuses 5 [] else answers x) ≡ refuses 5 [] → (a ≡ false) × (b ≡ true)
five true b x e = absurd (let z : ◌≡◌ {A = ℕ} 4 5 = cc in omega arith)
five false true x e = (refl, refl)
five false false x e = absurd (let z : ◌≡◌ {A = ℕ} 0 1 = cc in omega arith)

-- With k permitted bytes the strict reader refuses with 5 exactly 1 to k bytes that the writer gives for no number.
pub refuses_five_exactly : (k : ℕ) (v : List ℕ) → Bytes v
    → (script_num k true v ≡ refuses 5 []) ↔ (1 ≤ length v) × (length v ≤ k) × ((n : ℤ) → serialize n ≡ v → ⊥)
unfolding script_num
refuses_five_exactly k v h = (
  λ e.
      let t = five (ltb k (length v)) (non_minimal v) (set_vch v) e in
      (not_empty v t.1, ltb-false k (length v) t.0, λ n w. true≢false (sym t.1 ∙ ap non_minimal (sym w) ∙ written_minimal n)),
  λ p. go p.1 p.2 (non_minimal v) refl,
)
  where
    go : length v ≤ k → ((n : ℤ) → serialize n ≡ v → ⊥) → (t : Bool) → non_minimal v ≡ t → script_num k true v ≡ refuses 5 []
    go l none true e = rw (le-ltb k (length v) l, e)
    go l none false e = absurd (none (set_vch v) (minimal_written v h e))

-- Document 01's refusal 5, the case of four bytes. That the writer refuses -2^63 changes nothing: nine bytes would be written for it.
pub refuses_five_exactly_4 : (v : List ℕ) → Bytes v
    → (script_num n_default_max_num_size true v ≡ refuses 5 []) ↔ (1 ≤ length v) × (length v ≤ 4) × ((n : ℤ) → serialize n ≡ v → ⊥)
refuses_five_exactly_4 = refuses_five_exactly 4

-- what the strict reader takes, the loose one reads as the same number
pub loose_agrees : (k : ℕ) (v : List ℕ) (n : ℤ) → script_num k true v ≡ answers n → script_num k false v ≡ answers n
unfolding script_num
loose_agrees k v n e = let a = answer (ltb k (length v)) (non_minimal v) (set_vch v) n e in rw (a.0, a.2)
