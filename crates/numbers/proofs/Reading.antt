-- Core reads by places from the last byte; `Coded` goes byte by byte. What the reader takes has the relation, and from the relation follows
-- what the reader answers. Assumes nothing.
use mathlib.Core.Path.{◌≡◌, refl, sym, ap, ◌∙◌}
use mathlib.Core.Logic.{◌⊎◌, ⊎_elim}
use mathlib.Core.Bool.{false}
use mathlib.Core.List.{List, [], ◌∷◌, ◌++◌}
use Prim.Native.Nat.{ℕ, zero, suc, ◌+◌, ◌-◌, ◌*◌, ◌/◌, ◌%◌, ◌^◌, ◌≤◌, ◌<◌}
use native.Mathlib.Nat.{pow-suc}
use native.Mathlib.Numerals.{unary_clauses}
use native.Mathlib.Omega.{arith}
use borrow.Author.Tests.{lt-ltb, le-ltb, le-leb, lt-leb, ltb-false, eq-eqb, ne_eqb}
use lib.Dec.{leb}
use lib.IntN.{pos, neg_ℤ}
use lib.ListN.{length, drop, length-drop}
use lib.Seq.{drop-cons, drop-length, get_or-drop, drop-append_seam}
use Rattle.std.proofs.lemmas.List.{append_assoc}
use Rattle.std.specs.Prelude.{if◌then◌else◌}
use Rattle.laws.proofs.Test.{lt_or_le}
use Rattle.numbers.specs.ScriptNum.{little_endian, back, non_minimal, set_vch}
use Rattle.numbers.proofs.Coded.{Coded, only, apart, low, Bytes, positive}

-- the magnitude: the bytes, low first, without the top bit of the last
abbrev pub magnitude_of : List ℕ → ℕ
magnitude_of [] = 0
magnitude_of (b ∷ []) = b % 128
magnitude_of (b ∷ c ∷ v) = b + 256 * magnitude_of (c ∷ v)

-- ---- one byte more in front changes neither end

pub back_cons : (b c : ℕ) (v : List ℕ) → back (b ∷ c ∷ v) ≡ back (c ∷ v)
back_cons b c v = simp unary_clauses

non_minimal_cons : (b c d : ℕ) (v : List ℕ) → non_minimal (b ∷ c ∷ d ∷ v) ≡ non_minimal (c ∷ d ∷ v)
unfolding non_minimal
non_minimal_cons b c d v =
    let l = length v in
    let e : suc (suc (suc l)) - 2 ≡ suc l = omega arith in
    let f : suc (suc l) - 2 ≡ l = omega arith in
    simp
    (lt-ltb 0 (suc (suc (suc l))) (omega arith), lt-ltb 0 (suc (suc l)) (omega arith), lt-leb (suc (suc (suc l))) 1 (omega arith), lt-leb (suc (suc l)) 1 (omega arith), back_cons b c (d ∷ v), e, f)

-- ---- the value

-- where the last byte has no sign the bytes are the magnitude, and else they are more by the sign's place
plain : (b : ℕ) (v : List ℕ) → back (b ∷ v) < 128 → little_endian (b ∷ v) ≡ magnitude_of (b ∷ v)
plain b [] h = omega arith
plain b (c ∷ v) h = omega (arith, plain c v (rw back_cons at h))

signed : (b : ℕ) (v : List ℕ) → back (b ∷ v) < 256 → 128 ≤ back (b ∷ v) → little_endian (b ∷ v) ≡ magnitude_of (b ∷ v) + 128 * 256 ^ length v
signed b [] h g = omega arith
signed b (c ∷ v) h g = omega (arith, pow-suc 256 (length v), signed c v (rw back_cons at h) (rw back_cons at g))

pub set_vch_is : (v : List ℕ) → Bytes v → set_vch v ≡ (if leb 128 (back v) then neg_ℤ (pos (magnitude_of v)) else pos (magnitude_of v))
unfolding set_vch
set_vch_is [] h = refl
set_vch_is (b ∷ v) h =
    let e : suc (length v) - 1 ≡ length v = omega arith in
    ⊎_elim
    (λ l. rw (ne_eqb (suc (length v)) 0 (omega arith), lt-leb 128 (back (b ∷ v)) l, plain b v l))
    (λ (g : 128 ≤ back (b ∷ v)).
    let d : little_endian (b ∷ v) - 128 * 256 ^ (suc (length v) - 1) ≡ magnitude_of (b ∷ v) = rw e (omega (arith, signed b v (h (suc (length v) - 1)) g)) in
    rw (ne_eqb (suc (length v)) 0 (omega arith), le-leb 128 (back (b ∷ v)) g, d))
    (lt_or_le (back (b ∷ v)) 128)

pub set_vch_none : (v : List ℕ) → length v ≡ 0 → set_vch v ≡ pos 0
unfolding set_vch
set_vch_none v e = rw (eq-eqb (length v) 0 e)

-- ---- the magnitude of the bytes from a place on, as the loop of `scriptint_parse` goes down

pub magnitude_last : (v : List ℕ) → 0 < length v → magnitude_of (drop (length v - 1) v) ≡ back v % 128
magnitude_last v h =
    let e : suc (length v - 1) ≡ length v = omega arith in
    rw (drop-cons v (length v - 1) 0 (omega arith), e, drop-length v)

-- v is front and what is behind it, and one byte is taken from the end of front
pub taken_back : (v front rest : List ℕ) (b : ℕ) → front ++ drop (length front) v ≡ v → front ≡ rest ++ b ∷ []
    → (rest ++ drop (length rest) v ≡ v) × (drop (length rest) v ≡ b ∷ drop (length front) v)
taken_back v front rest b e f =
    let w : rest ++ (b ∷ drop (length front) v) ≡ v = sym (append_assoc rest (b ∷ []) (drop (length front) v)) ∙ ap (λ (u : List ℕ). u ++ drop (length front) v) (sym f) ∙ e in
    let d : drop (length rest) v ≡ b ∷ drop (length front) v = ap (drop (length rest)) (sym w) ∙ drop-append_seam rest (b ∷ drop (length front) v) in
    (rw d w, d)

pub magnitude_step : (b : ℕ) (v : List ℕ) → 0 < length v → magnitude_of v * 256 + b ≡ magnitude_of (b ∷ v)
magnitude_step b [] h = absurd (omega arith)
magnitude_step b (c ∷ v) h = omega arith

magnitude_below : (k : ℕ) (v : List ℕ) → Bytes v → length v ≤ suc k → magnitude_of v < 128 * 256 ^ k
magnitude_below zero [] h l = omega arith
magnitude_below zero (b ∷ []) h l = omega arith
magnitude_below zero (b ∷ c ∷ v) h l = absurd (omega arith)
magnitude_below (suc k) [] h l = omega (arith, pow-suc 256 k, magnitude_below k [] h (omega arith))
magnitude_below (suc k) (b ∷ []) h l = omega (arith, pow-suc 256 k, magnitude_below k (b ∷ []) h (omega arith))
magnitude_below (suc k) (b ∷ c ∷ v) h l = omega (arith, h 0, pow-suc 256 k, magnitude_below k (c ∷ v) (λ i. h (suc i)) (omega arith))

pub magnitude_fits : (k i : ℕ) (v : List ℕ) → Bytes v → length v ≤ i + suc k → magnitude_of (drop i v) < 128 * 256 ^ k
magnitude_fits k i v h l = magnitude_below k (drop i v) (λ j. rw get_or-drop (h (i + j))) (simp length-drop (omega arith))

-- ---- what a strict reader takes has the relation

pub minimal_coded : (b : ℕ) (v : List ℕ) → Bytes (b ∷ v) → non_minimal (b ∷ v) ≡ false → Coded (back (b ∷ v) / 128 * 128) (magnitude_of (b ∷ v)) (b ∷ v)
unfolding non_minimal
minimal_coded b [] h t =
    let g : b % 128 ≡ 0 → ⊥ = λ e. let z : ◌≡◌ {A = ℕ} 0 1 = cc (eq-eqb (b % 128) 0 e) in omega arith in
    only {m = b % 128} {b = b} (omega arith) (omega arith) (omega arith)
minimal_coded b (c ∷ []) h t =
    ⊎_elim
    (λ l. low {q = c % 128} (h 0) l refl (only {m = c % 128} {b = c} l (omega arith) (omega arith)))
    (λ g.
    let z : c % 128 ≡ 0 = omega arith in
    let u : 128 ≤ b = ltb-false b 128 (rw (eq-eqb (c % 128) 0 z) at t) in
    apart {m = b + 256 * (c % 128)} {b = b} {c = c} (omega arith) (omega (arith, h 0)) (omega arith) (omega (arith, h 1)))
    (lt_or_le 0 (c % 128))
minimal_coded b (c ∷ d ∷ v) h t =
    let f = minimal_coded c (d ∷ v) (λ i. h (suc i)) (rw non_minimal_cons at t) in
    rw back_cons (low (h 0) (positive f) refl f)

-- ---- what follows from the relation

-- no bytes of the same magnitude are fewer
pub none_fewer : {s m : ℕ} {w : List ℕ} → Coded s m w → (v : List ℕ) → Bytes v → magnitude_of v ≡ m → length w ≤ length v
none_fewer f [] h e = absurd (omega (arith, positive f))
none_fewer (only x y z) (b ∷ v) h e = omega arith
none_fewer (apart x y z w) (b ∷ []) h e = absurd (omega arith)
none_fewer (apart x y z w) (b ∷ c ∷ v) h e = omega arith
none_fewer (low x y z f) (b ∷ []) h e = absurd (omega arith)
none_fewer (low x y z f) (b ∷ c ∷ v) h e = omega (arith, none_fewer f (c ∷ v) (λ i. h (suc i)) (omega (arith, h 0)))

module _ {s : ℕ} (o : (s ≡ 0) ⊎ (s ≡ 128)) where
  pub magnitude_is : {m : ℕ} {v : List ℕ} → Coded s m v → magnitude_of v ≡ m
  magnitude_is (only x y z) = ⊎_elim (λ e. omega arith) (λ e. omega arith) o
  magnitude_is (apart x y z w) = ⊎_elim (λ e. omega arith) (λ e. omega arith) o
  magnitude_is (low x y z f) = omega (arith, magnitude_is f)

  back_is : {m : ℕ} {v : List ℕ} → Coded s m v → back v / 128 * 128 ≡ s
  back_is (only x y z) = ⊎_elim (λ e. omega arith) (λ e. omega arith) o
  back_is (apart x y z w) = ⊎_elim (λ e. omega arith) (λ e. omega arith) o
  back_is (low {b = b} {c = c} {v = v} x y z f) = rw back_cons (back_is f)

  pub sign_is : {m : ℕ} {v : List ℕ} → Coded s m v → leb 128 (back v) ≡ leb 128 s
  sign_is {v = v} f =
      let e = back_is f in
      ⊎_elim (λ z. rw (lt-leb 128 (back v) (omega arith), lt-leb 128 s (omega arith))) (λ z. rw (le-leb 128 (back v) (omega arith), le-leb 128 s (omega arith))) o

  pub coded_minimal : {m : ℕ} {v : List ℕ} → Coded s m v → non_minimal v ≡ false
  unfolding non_minimal
  coded_minimal (only {b = b} x y z) = rw (ne_eqb (b % 128) 0 (⊎_elim (λ e. omega arith) (λ e. omega arith) o))
  coded_minimal (apart {b = b} {c = c} x y z w) =
      rw (eq-eqb (c % 128) 0 (⊎_elim (λ e. omega arith) (λ e. omega arith) o), le-ltb b 128 (omega arith))
  coded_minimal (low {c = c} x y z (only x' y' z')) = rw (ne_eqb (c % 128) 0 (⊎_elim (λ e. omega arith) (λ e. omega arith) o))
  coded_minimal (low {b = b} x y z (apart {b = c} {c = d} x' y' z' w')) = non_minimal_cons b c d [] ∙ coded_minimal (apart {b = c} {c = d} x' y' z' w')
  coded_minimal (low {b = b} x y z (low {b = c} {c = d} {v = v} x' y' z' f)) = non_minimal_cons b c d v ∙ coded_minimal (low {b = c} {c = d} {v = v} x' y' z' f)
