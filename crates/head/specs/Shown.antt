-- The screen up to the text in an array of 160 bytes: what is shown, zeros behind it, and that the one gives the other back. Assumes nothing.
use Rattle.std.specs.Prelude.{◌≡◌, List, ◌++◌, ℕ, ◌-◌, ◌≤◌, length, take, drop, replicate}
use Rattle.std.proofs.Common.{arith, sym, take-append-drop, length-take-le}

-- the bytes that are shown: so many from the array's front
abbrev pub shown_in : (bytes : List ℕ) (len : ℕ) → List ℕ
shown_in bytes len = take len bytes

-- the array whose first bytes are these, zero behind them
abbrev pub filled : List ℕ → List ℕ
filled shown = shown ++ replicate (160 - length shown) 0

module _ (bytes : List ℕ) (len : ℕ) (h : length bytes ≡ 160) (l : len ≤ 160) where
  pub shown_length : length (take len bytes) ≡ len
  shown_length = length-take-le len bytes (omega (arith, h))

  pub given_back : drop len bytes ≡ replicate (160 - len) 0 → filled (take len bytes) ≡ bytes
  given_back z = rw (shown_length, sym z) (take-append-drop len bytes)
