-- Document 01's W8 and W9, computed from the definitions. Assumes nothing.
use mathlib.Core.Path.{◌≡◌, refl}
use mathlib.Core.Bool.{true, false}
use mathlib.Core.List.{[], ◌∷◌, map}
use lib.IntN.{pos, neg_ℤ}
use Rattle.laws.specs.Said.{answers, refuses}
use Rattle.numbers.specs.ScriptNum.{low_bytes, serialize, non_minimal, set_vch, script_num}

pub marked :
    (map serialize (pos 127 ∷ pos 128 ∷ neg_ℤ (pos 255) ∷ pos 2147483647 ∷ []) ≡
    (0x7f ∷ []) ∷ (0x80 ∷ 0x00 ∷ []) ∷ (0xff ∷ 0x80 ∷ []) ∷ (0xff ∷ 0xff ∷ 0xff ∷ 0x7f ∷ []) ∷ []) ×
    (script_num 4 true (0x80 ∷ []) ≡ refuses 5 []) ×
    (script_num 4 false (0x80 ∷ []) ≡ answers (pos 0))
unfolding low_bytes serialize non_minimal set_vch script_num
marked = (refl, refl, refl)
