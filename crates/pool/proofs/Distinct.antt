-- Names are told apart, have no space in them and are short: each by one test that is computed over all 256. Assumes nothing.
use mathlib.Core.Path.{◌≡◌, refl, sym, ap, ◌∙◌}
use mathlib.Core.Bool.{Bool, true, not}
use mathlib.Core.List.{List, [], ◌∷◌}
use Prim.Native.Nat.{ℕ, zero, suc, ◌+◌, ◌*◌, ◌/◌, ◌%◌, ◌^◌, ◌≤◌, ◌<◌}
use lib.Dec.{leb, eqb}
use lib.ListN.{length, get_or}
use borrow.Author.Tests.{eqb-true, eqb-false, leb-true, not-true}
use Rattle.laws.proofs.Table.{every, at}
use Rattle.pool.specs.Text.{digits, decimal}
use Rattle.pool.specs.Names.{name_of}

-- a name read on from n as a number in base 256, modulo 3059, where no two names meet
unfoldable mark : ℕ → List ℕ → ℕ
mark n [] = n % 3059
mark n (b ∷ bs) = mark (n * 256 + b) bs

-- the opcodes below k, each as a digit in base 256 at its name's mark
unfoldable codes_below : ℕ → ℕ
codes_below zero = 0
codes_below (suc k) = codes_below k + k * 256 ^ mark 0 (name_of k)

-- the digit at a name's mark
unfoldable code_of : List ℕ → ℕ
code_of name = codes_below 256 / 256 ^ mark 0 name % 256

told : ℕ → Bool
told code = eqb (code_of (name_of code)) code

all_told : every told 256 ≡ true
unfolding told code_of codes_below mark name_of decimal digits
all_told = refl

code_of_name : (code : ℕ) → code < 256 → code_of (name_of code) ≡ code
unfolding told
code_of_name code h = eqb-true _ _ (at told 256 code all_told h)

-- two opcodes with one name are one opcode
pub names_differ : (a b : ℕ) → a < 256 → b < 256 → name_of a ≡ name_of b → a ≡ b
names_differ a b h k e = sym (code_of_name a h) ∙ ap code_of e ∙ code_of_name b k

plain_at : List ℕ → ℕ → Bool
plain_at name i = not (eqb (get_or name i 0) 32)

plain : ℕ → Bool
plain code = every (plain_at (name_of code)) (length (name_of code))

all_plain : every plain 256 ≡ true
unfolding plain plain_at name_of decimal digits
all_plain = refl

-- no byte of a name is a space
pub no_space : (a i : ℕ) → a < 256 → i < length (name_of a) → get_or (name_of a) i 0 ≡ 32 → ⊥
unfolding plain plain_at
no_space a i h k = eqb-false _ _ (not-true _ (at (plain_at (name_of a)) (length (name_of a)) i (at plain 256 a all_plain h) k))

short : ℕ → Bool
short code = leb (length (name_of code)) 22

all_short : every short 256 ≡ true
unfolding short name_of decimal digits
all_short = refl

-- the longest name has 22 bytes
pub name_short : (code : ℕ) → code < 256 → length (name_of code) ≤ 22
unfolding short
name_short code h = leb-true _ _ (at short 256 code all_short h)
