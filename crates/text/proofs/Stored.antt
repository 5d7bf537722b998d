-- Bytes that are stored one run behind the other are stored as one run. Assumes nothing.
use mathlib.Core.Path.{◌≡◌, refl, sym, ◌∙◌}
use mathlib.Core.List.{List, ◌++◌}
use Prim.Native.Nat.{ℕ, suc, ◌+◌, ◌/◌, ◌%◌, ◌≤◌, ◌<◌}
use native.Mathlib.Numerals.{add-one}
use native.Mathlib.Omega.{arith}
use lib.ListN.{length, set, get_or, drop, length-append}
use lib.Seq.{sets, length-sets, drop-cons}
use Rattle.laws.proofs.Stored.{stored_both}
use Rattle.asm.specs.Asm.{hex_digit, hex}

-- a run of w is still to be stored from n on in a buffer that has room for it; then it is what `old` becomes
pub record Left (w old : List ℕ) (n : ℕ) (out rest : List ℕ) : Type 0 where
  pub same : length out ≡ length old
  pub room : n + length rest ≤ length out
  pub then : sets out n rest ≡ sets old 0 w

pub begin : {w old : List ℕ} → length w ≤ length old → Left w old 0 old w
begin h = record { same = refl; room = omega arith; then = refl }

module _ {w old out : List ℕ} {n : ℕ} where
  -- the first part is stored
  pub on : (a b : List ℕ) → Left w old n out (a ++ b) → {m : ℕ} {new : List ℕ} → m ≡ n + length a → new ≡ sets out n a → Left w old m new b
  on a b f {m} {new} e g =
      record {
        same = rw g (length-sets out n a ∙ f.same);
        room = rw (g, length-sets) (omega (arith, f.room, length-append a b));
        then = rw (g, e) (sym (stored_both out n a b) ∙ f.then);
      }

  pub fits : (a b : List ℕ) → Left w old n out (a ++ b) → n + length a ≤ length out
  fits a b f = omega (arith, f.room, length-append a b)

  -- the same, of equal lists
  pub equal : {rest new to : List ℕ} → Left w old n out rest → new ≡ out → rest ≡ to → Left w old n new to
  equal f p q = rw (p, ← q) f

  pub last : {a : List ℕ} → Left w old n out a → {new : List ℕ} → new ≡ sets out n a → new ≡ sets old 0 w
  last f g = g ∙ f.then

-- one byte of a run in hex, and the rest of it
pub store_hex : (out bytes : List ℕ) (m i : ℕ) → i < length bytes
    → sets out m (hex (drop i bytes))
    ≡ sets (set (set out m (hex_digit (get_or bytes i 0 / 16))) (m + 1) (hex_digit (get_or bytes i 0 % 16))) (m + 2) (hex (drop (i + 1) bytes))
unfolding hex
store_hex out bytes m i h = let e : m + 2 ≡ suc (suc m) = omega arith in rw (drop-cons bytes i 0 h, e, add-one m, add-one i)
