-- Script numbers as Core has them: CScriptNum of script/script.h, and CastToBool of script/interpreter.cpp. A byte's top bit is set where
-- the byte is at least 0x80, and `b % 0x80` is the byte without it. Assumes nothing.
use Rattle.std.specs.Prelude.{Bool, true, false, ◌&&◌, ◌||◌, List, [], ◌∷◌, ℕ, zero, suc, ◌+◌, ◌-◌, ◌*◌, ◌/◌, ◌%◌, ◌^◌, ltb, leb, eqb, ℤ, pos, neg_ℤ, nat_abs, length, get_or}
use Rattle.std.specs.Int.Signed.{lt_z}
use Rattle.std.specs.Prelude.{if◌then◌else◌}
use Rattle.laws.specs.Said.{Said, answers, refuses}

-- serialize's loop, `while (absvalue) { result.push_back(absvalue & 0xff); absvalue >>= 8; }`, for at most `turns` turns
unfoldable pub low_bytes : ℕ → ℕ → List ℕ
low_bytes zero absvalue = []
low_bytes (suc turns) zero = []
low_bytes (suc turns) (suc n) = suc n % 0x100 ∷ low_bytes turns (suc n / 0x100)

-- serialize's end, `if (result.back() & 0x80) result.push_back(neg ? 0x80 : 0); else if (neg) result.back() |= 0x80;`
abbrev pub close_sign : Bool → List ℕ → List ℕ
close_sign neg [] = []
close_sign neg (b ∷ []) =
    if leb 0x80 b then b ∷ (if neg then 0x80 else 0) ∷ []
    else if neg then (b + 0x80) ∷ []
    else b ∷ []
close_sign neg (b ∷ c ∷ result) = b ∷ close_sign neg (c ∷ result)

-- CScriptNum::serialize; each turn of the loop makes absvalue less, so absvalue itself is turns enough
unfoldable pub serialize : ℤ → List ℕ
serialize value =
    let neg = lt_z value (pos 0) in
    let absvalue = nat_abs value in
    if eqb absvalue 0 then [] else close_sign neg (low_bytes absvalue absvalue)

-- set_vch's loop: the sum of vch[i] * 256^i
abbrev pub little_endian : List ℕ → ℕ
little_endian [] = 0
little_endian (b ∷ vch) = b + 0x100 * little_endian vch

-- vch.back()
abbrev pub back : List ℕ → ℕ
back vch = get_or vch (length vch - 1) 0

-- CScriptNum::set_vch
unfoldable pub set_vch : List ℕ → ℤ
set_vch vch =
    let result = little_endian vch in
    if eqb (length vch) 0 then pos 0
    else if leb 0x80 (back vch) then neg_ℤ (pos (result - 0x80 * 0x100 ^ (length vch - 1)))
    else pos result

-- the constructor's test, `vch.size() > 0`, `(vch.back() & 0x7f) == 0`, `vch.size() <= 1 || (vch[vch.size() - 2] & 0x80) == 0`
unfoldable pub non_minimal : List ℕ → Bool
non_minimal vch =
    ltb 0 (length vch) && (eqb (back vch % 0x80) 0 && (leb (length vch) 1 || ltb (get_or vch (length vch - 2) 0) 0x80))

-- CScriptNum::nDefaultMaxNumSize
abbrev pub n_default_max_num_size : ℕ
n_default_max_num_size = 4

-- the constructor CScriptNum(vch, fRequireMinimal, nMaxNumSize), with the numbers of document 01 for its two errors
unfoldable pub script_num : ℕ → Bool → List ℕ → Said ℤ
script_num nMaxNumSize fRequireMinimal vch =
    if ltb nMaxNumSize (length vch) then refuses 4 []
    else if fRequireMinimal && non_minimal vch then refuses 5 []
    else answers (set_vch vch)

-- CastToBool: the first byte that is not 0 makes it true, but for 0x80 in the last place, which is negative zero
unfoldable pub cast_to_bool : List ℕ → Bool
cast_to_bool [] = false
cast_to_bool (b ∷ vch) =
    if eqb b 0 then cast_to_bool vch
    else if eqb (length vch) 0 && eqb b 0x80 then false
    else true
