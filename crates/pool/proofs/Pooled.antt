-- The three tables place each name: it stands in the pool behind the names before it. Assumes nothing.
use mathlib.Core.Path.{◌≡◌, refl, sym, ap, ◌∙◌}
use mathlib.Core.List.{List, ◌++◌, append_assoc}
use Prim.Native.Nat.{ℕ, zero, suc, ◌+◌, ◌-◌, ◌<◌}
use native.Mathlib.Nat.{suc-add, add-suc, zero-add, add-zero, le_of_suc-le-suc, not-suc-le-zero}
use native.Mathlib.Omega.{arith}
use lib.ListN.{length, get_or}
use lib.Seq.{take-append_seam, drop-append_seam}
use Rattle.pool.specs.Names.{name_of}
use Rattle.pool.specs.Pool.{names_from, table, pool_of_names, starts_of_names, lengths_of_names, placed}

module _ (f : ℕ → ℕ) where
  from : (n i k : ℕ) → k < n → get_or (table f n i) k 0 ≡ f (i + k)
  from zero i k h = absurd (not-suc-le-zero h)
  from (suc n) i zero h = rw add-zero
  from (suc n) i (suc k) h = from n (suc i) k (le_of_suc-le-suc h) ∙ rw (suc-add, add-suc)

  table_at : (n k : ℕ) → k < n → get_or (table f n 0) k 0 ≡ f k
  table_at n k h = from n 0 k h ∙ rw zero-add

joined : (j k code : ℕ) → names_from (j + k) code ≡ names_from j code ++ names_from k (code + j)
unfolding names_from
joined zero k code = rw (zero-add, add-zero)
joined (suc j) k code = rw (suc-add j k, joined j k (suc code), append_assoc, suc-add code j, sym (add-suc code j))

first : (k code : ℕ) → names_from (suc k) code ≡ name_of code ++ names_from k (suc code)
unfolding names_from
first k code = refl

split : (code : ℕ) → code < 256 → names_from 256 0 ≡ names_from code 0 ++ (name_of code ++ names_from (255 - code) (suc code))
split code h =
    ap (λ (n : ℕ). names_from n 0) (omega arith) ∙ joined code (suc (255 - code)) 0
    ∙ ap (λ (l : List ℕ). names_from code 0 ++ l) (ap (names_from (suc (255 - code))) (zero-add code) ∙ first (255 - code) code)

start_at : (code : ℕ) → code < 256 → get_or starts_of_names code 0 ≡ length (names_from code 0)
unfolding starts_of_names
start_at code h = table_at (λ k. length (names_from k 0)) 256 code h

-- the table of lengths gives a name's length
pub length_at : {lengths : List ℕ} (code : ℕ) → lengths ≡ lengths_of_names → code < 256 → get_or lengths code 0 ≡ length (name_of code)
unfolding lengths_of_names
length_at code e h = rw e (table_at (λ k. length (name_of k)) 256 code h)

-- the part of the pool at which the tables place a name is the name
pub name_at :
    {pool starts lengths : List ℕ} (code : ℕ) → pool ≡ pool_of_names → starts ≡ starts_of_names → lengths ≡ lengths_of_names → code < 256 →
    placed pool starts lengths code ≡ name_of code
unfolding placed pool_of_names
name_at code p s l h =
    rw (p, s, length_at code l h, start_at code h, split code h, drop-append_seam (names_from code 0) (name_of code ++ names_from (255 - code) (suc code)))
    (take-append_seam (name_of code) (names_from (255 - code) (suc code)))
