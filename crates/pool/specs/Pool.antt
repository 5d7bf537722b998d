-- How the names are laid out: one pool of bytes, and by opcode where the name starts in it and how long it is. Assumes nothing.
use Rattle.std.specs.Prelude.{List, [], ◌∷◌, ◌++◌, ℕ, zero, suc, min, length, get_or, take, drop}
use Rattle.pool.specs.Names.{name_of}

-- so many names, one after the other, from that of code on
unfoldable pub names_from : ℕ → ℕ → List ℕ
names_from zero code = []
names_from (suc count) code = name_of code ++ names_from count (suc code)

-- the value of f at so many places, from that at i on
abbrev pub table : (ℕ → ℕ) → ℕ → ℕ → List ℕ
table f zero i = []
table f (suc count) i = f i ∷ table f count (suc i)

-- the pool: all 256 names, one after the other
unfoldable pub pool_of_names : List ℕ
pool_of_names = names_from 256 0

-- where each name starts in the pool: behind all names before it
unfoldable pub starts_of_names : List ℕ
starts_of_names = table (λ code. length (names_from code 0)) 256 0

-- how many bytes each name has
unfoldable pub lengths_of_names : List ℕ
lengths_of_names = table (λ code. length (name_of code)) 256 0

-- the part of a pool at which two tables place the name of an opcode
unfoldable pub placed : List ℕ → List ℕ → List ℕ → ℕ → List ℕ
placed pool starts lengths code = take (get_or lengths code 0) (drop (get_or starts code 0) pool)

-- where that part starts
unfoldable pub place_in : List ℕ → List ℕ → ℕ → ℕ
place_in pool starts code = min (get_or starts code 0) (length pool)
