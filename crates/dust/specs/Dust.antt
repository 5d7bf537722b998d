-- Dust, from document 01, 'Counts and dust', over unbounded numbers. Assumes nothing.
use Rattle.std.specs.Prelude.{List, [], ℕ, ◌+◌, ◌*◌, ◌/◌, ltb, leb, length}
use Rattle.std.specs.Prelude.{if◌then◌else◌}
use Rattle.laws.specs.Said.{Said, answers, refuses}
use Rattle.refusal.specs.Refusal.{within_limit}
use Rattle.fixed.specs.Fixed.{is_witness_program, is_op_return}

-- 2^64 - 1
abbrev pub most_amount : ℕ
most_amount = 18446744073709551615

-- 'c is 1 below 253, 3 up to 65,535, else 5': GetSizeOfCompactSize of Core's serialize.h, for lengths within the limit
unfoldable pub get_size_of_compact_size : ℕ → ℕ
get_size_of_compact_size nSize = if ltb nSize 253 then 1 else if leb nSize 65535 then 3 else 5

-- 'Size is 0 for OP_RETURN, else length + c + 75 for a witness script or + 156 otherwise'
unfoldable pub dust_size : List ℕ → ℕ
dust_size s =
    if is_op_return s then 0
    else if is_witness_program s then length s + get_size_of_compact_size (length s) + 75
    else length s + get_size_of_compact_size (length s) + 156

-- 'rate times size, divided by 1000, rounded down'; refusal 9 where the product exceeds 2^64 - 1
unfoldable pub fee_says : (rate size : ℕ) → Said ℕ
fee_says rate size = if ltb most_amount (rate * size) then refuses 9 [] else answers (rate * size / 1000)

-- 'The default rate is 3000', which no length brings over 2^64 - 1
abbrev pub dust_of : List ℕ → ℕ
dust_of s = 3000 * dust_size s / 1000

-- refusal 1, else that
unfoldable pub dust_says : List ℕ → Said ℕ
dust_says s = within_limit s (answers (dust_of s))

-- 'the custom call takes satoshi per 1000 weight units, times 4'; refusal 9 where that exceeds 2^64 - 1
unfoldable pub custom_says : List ℕ → (rate : ℕ) → Said ℕ
custom_says s rate = within_limit s (if ltb most_amount (rate * 4) then refuses 9 [] else fee_says (rate * 4) (dust_size s))
