-- Texts as bytes: quoted text, and numbers in decimal. Assumes nothing.
use Rattle.std.specs.Prelude.{List, [], ◌∷◌, ℕ, zero, suc, ◌+◌, ◌/◌, ◌%◌, ltb}
use Prim.Native.Char.{code}
use Prim.Native.String.{String, [] as none, ◌∷◌ as ◌then◌}
use Rattle.std.specs.Prelude.{if◌then◌else◌}

-- the bytes of a text
abbrev pub text : String → List ℕ
text none = []
text (c then s) = code c ∷ text s

-- the decimal digits of n before those of `rest`, for an n of at most `most` digits
unfoldable pub digits : ℕ → ℕ → List ℕ → List ℕ
digits zero n rest = rest
digits (suc most) n rest = if ltb n 10 then (48 + n) ∷ rest else digits most (n / 10) ((48 + n % 10) ∷ rest)

-- a number in decimal, with no zero in front; every 64-bit number has at most 20 digits
unfoldable pub decimal : ℕ → List ℕ
decimal n = digits 20 n []
