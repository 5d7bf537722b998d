-- What a slice of bytes holds. Assumes nothing.
use Rattle.std.specs.Prelude.{List, ℕ, ◌<◌, get_or}

-- each element is a byte; past the end `get_or` gives 0
abbrev pub Bytes : List ℕ → Type 0
Bytes s = (i : ℕ) → get_or s i 0 < 256
