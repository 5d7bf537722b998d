-- The bytes of a magnitude m that is not 0, with the sign bit s, as a relation that goes byte by byte: what `serialize` gives has it, and it
-- settles the bytes, their count and their range. Assumes nothing.
use mathlib.Core.Path.{◌≡◌, refl, sym, ap, ap₂, ◌∙◌, subst}
use mathlib.Core.Logic.{◌⊎◌, inl, inr, ⊎_elim}
use mathlib.Core.Bool.{Bool, true, false}
use mathlib.Core.List.{List, [], ◌∷◌}
use Prim.Native.Nat.{ℕ, zero, suc, ◌+◌, ◌-◌, ◌*◌, ◌/◌, ◌%◌, ◌^◌, ◌≤◌, ◌<◌}
use native.Mathlib.Nat.{lt_of_not-le, lt_of_lt_of_le, pow-suc}
use native.Mathlib.Omega.{arith}
use borrow.Author.Tests.{le-leb, lt-leb}
use lib.Count.{leading_top}
use lib.ListN.{length}
use lib.Pow.{pow_mono, pow-add}
pub use Rattle.laws.specs.Bytes.{Bytes}
use Rattle.std.specs.Prelude.{if◌then◌else◌}
use Rattle.laws.proofs.Test.{lt_or_le}
use Rattle.numbers.specs.ScriptNum.{low_bytes, close_sign}

-- the last byte holds magnitude and sign; the sign has a byte of its own; a low byte stands before the others
pub data Coded (s : ℕ) : ℕ → List ℕ → Type 0 where
  only : {m b : ℕ} → 0 < m → m < 128 → b ≡ m + s → Coded s m (b ∷ [])
  apart : {m b c : ℕ} → 128 ≤ m → m < 256 → b ≡ m → c ≡ s → Coded s m (b ∷ c ∷ [])
  low : {m b q c : ℕ} {v : List ℕ} → b < 256 → 0 < q → m ≡ b + 256 * q → Coded s q (c ∷ v) → Coded s m (b ∷ c ∷ v)

abbrev pub bit : Bool → ℕ
bit neg = if neg then 0x80 else 0

pub bit_is : (neg : Bool) → (bit neg ≡ 0) ⊎ (bit neg ≡ 128)
bit_is true = inr refl
bit_is false = inl refl

-- ---- what is written has it

below : {s m b q : ℕ} {v : List ℕ} → b < 256 → 0 < q → m ≡ b + 256 * q → Coded s q v → Coded s m (b ∷ v)
below h p e (only x y z) = low h p e (only x y z)
below h p e (apart x y z w) = low h p e (apart x y z w)
below h p e (low x y z f) = low h p e (low x y z f)

last : (neg : Bool) (b : ℕ) → 0 < b → b < 256 → Coded (bit neg) b (close_sign neg (b ∷ []))
last true b p h = ⊎_elim (λ l. rw (lt-leb 128 b l) (only p l refl)) (λ g. rw (le-leb 128 b g) (apart g h refl refl)) (lt_or_le b 128)
last false b p h = ⊎_elim (λ l. rw (lt-leb 128 b l) (only {b = b} p l (omega arith))) (λ g. rw (le-leb 128 b g) (apart g h refl refl)) (lt_or_le b 128)

more : (neg : Bool) {m b q : ℕ} (v : List ℕ) → b < 256 → 0 < q → m ≡ b + 256 * q → Coded (bit neg) q (close_sign neg v) → Coded (bit neg) m (close_sign neg (b ∷ v))
more neg {m = m} {b = b} {q = q} [] h p e f = elim f [ ]
more neg (c ∷ w) h p e f = below h p e f

nothing : (turns : ℕ) → low_bytes turns 0 ≡ []
unfolding low_bytes
nothing zero = refl
nothing (suc turns) = refl

same_bytes : (a b m : ℕ) → m ≤ a → m ≤ b → low_bytes a m ≡ low_bytes b m
unfolding low_bytes
same_bytes zero b zero h g = sym (nothing b)
same_bytes zero b (suc n) h g = absurd (omega arith)
same_bytes (suc a) b zero h g = sym (nothing b)
same_bytes (suc a) zero (suc n) h g = absurd (omega arith)
same_bytes (suc a) (suc b) (suc n) h g = ap (λ (v : List ℕ). suc n % 256 ∷ v) (same_bytes a b (suc n / 256) (omega arith) (omega arith))

-- As many turns as the magnitude are enough for serialize's loop: more change nothing.
pub low_bytes_turns : (turns m : ℕ) → m ≤ turns → low_bytes turns m ≡ low_bytes m m
low_bytes_turns turns m h = same_bytes turns m m h (omega arith)

turns_enough : (neg : Bool) (turns m : ℕ) → m ≤ turns → 0 < m → Coded (bit neg) m (close_sign neg (low_bytes turns m))
unfolding low_bytes
turns_enough neg zero m h p = absurd (omega arith)
turns_enough neg (suc turns) zero h p = absurd (omega arith)
turns_enough neg (suc turns) (suc n) h p =
    ⊎_elim
    (λ l.
    let q : suc n / 256 ≡ 0 = omega arith in
    let r : suc n % 256 ≡ suc n = omega arith in
    rw (q, nothing turns, r) (last neg (suc n) p l))
    (λ g. more neg (low_bytes turns (suc n / 256)) (omega arith) (omega arith) (omega arith) (turns_enough neg turns (suc n / 256) (omega arith) (omega arith)))
    (lt_or_le (suc n) 256)

pub closed_coded : (neg : Bool) (m : ℕ) → 0 < m → Coded (bit neg) m (close_sign neg (low_bytes m m))
closed_coded neg m p = turns_enough neg m m (omega arith) p

-- ---- what has it

pub positive : {s m : ℕ} {v : List ℕ} → Coded s m v → 0 < m
positive (only x y z) = x
positive (apart x y z w) = omega arith
positive (low x y z f) = omega arith

pub one_coding : {s m : ℕ} {v w : List ℕ} → Coded s m v → Coded s m w → v ≡ w
one_coding (only x y z) (only x' y' z') = ap (λ (b : ℕ). b ∷ []) (z ∙ sym z')
one_coding (only x y z) (apart x' y' z' w') = absurd (omega arith)
one_coding (only x y z) (low x' y' z' f') = absurd (omega arith)
one_coding (apart x y z w) (only x' y' z') = absurd (omega arith)
one_coding (apart x y z w) (apart x' y' z' w') = ap₂ (λ (b c : ℕ). b ∷ c ∷ []) (z ∙ sym z') (w ∙ sym w')
one_coding (apart x y z w) (low x' y' z' f') = absurd (omega arith)
one_coding (low x y z f) (only x' y' z') = absurd (omega arith)
one_coding (low x y z f) (apart x' y' z' w') = absurd (omega arith)
one_coding {s} (low {b = b} {q = q} x y z f) (low {b = b'} {q = q'} {c = c'} {v = v'} x' y' z' f') =
    let e : b ≡ b' = omega arith in
    let d : q' ≡ q = omega arith in
    ap₂ (λ (b : ℕ) (v : List ℕ). b ∷ v) e (one_coding f (subst (λ (x : ℕ). Coded s x (c' ∷ v')) d f'))

pub coded_bytes : {s m : ℕ} {v : List ℕ} → s ≤ 128 → Coded s m v → Bytes v
coded_bytes l (only x y z) zero = omega arith
coded_bytes l (only x y z) (suc i) = omega arith
coded_bytes l (apart x y z w) zero = omega arith
coded_bytes l (apart x y z w) (suc zero) = omega arith
coded_bytes l (apart x y z w) (suc (suc i)) = omega arith
coded_bytes l (low x y z f) zero = x
coded_bytes l (low x y z f) (suc i) = coded_bytes l f i

-- a magnitude of suc j bits has those bits and one for the sign, in whole bytes
pub coded_length : {s m : ℕ} {v : List ℕ} (j : ℕ) → 2 ^ j ≤ m → m < 2 ^ suc j → Coded s m v → length v ≡ suc j / 8 + 1
coded_length j l h (only x y z) = let g : j < 7 = lt_of_not-le (λ g. omega (arith, pow_mono {i = 7} g)) in omega arith
coded_length j l h (apart x y z w) =
    let g : j < 8 = lt_of_not-le (λ g. omega (arith, pow_mono {i = 8} g)) in
    let k : 6 < j = lt_of_not-le (λ g. let g' : suc j ≤ 7 = omega arith in omega (arith, pow_mono g')) in
    omega arith
coded_length j l h (low x y z f) =
    let k : 7 < j = lt_of_not-le (λ g. let g' : suc j ≤ 8 = omega arith in omega (arith, pow_mono g')) in
    let i : ℕ = j - 8 in
    let e : 2 ^ j ≡ 256 * 2 ^ i = ap (λ (n : ℕ). 2 ^ n) (omega arith) ∙ pow-add 2 8 i in
    omega (arith, coded_length i (omega (arith, e)) (omega (arith, e, pow-suc 2 i, pow-suc 2 j)) f)

below_pow : (m : ℕ) → m < 2 ^ m
below_pow zero = omega arith
below_pow (suc m) = omega (arith, below_pow m, pow-suc 2 m)

-- k bytes are enough exactly below 2 ^ (8 * k - 1)
module _ {s m : ℕ} {v : List ℕ} (f : Coded s m v) (k : ℕ) where
  pub short_small : length v ≤ k → m < 2 ^ (8 * k - 1)
  short_small h =
      let t = leading_top m m (positive f) (below_pow m) in
      let l = coded_length t.0 t.2 t.3 f in
      lt_of_lt_of_le t.3 (pow_mono (omega arith))

  pub small_short : m < 2 ^ (8 * k - 1) → length v ≤ k
  small_short h =
      let t = leading_top m m (positive f) (below_pow m) in
      let l = coded_length t.0 t.2 t.3 f in
      let j : t.0 < 8 * k - 1 = lt_of_not-le (λ g. omega (arith, pow_mono g, t.2)) in
      omega arith
