-- A copy to a buffer that has room for all of it. Assumes nothing.
use Rattle.std.proofs.Common.{◌≡◌, ℕ, List, ◌+◌, ◌-◌, ◌++◌, ◌≤◌, length, take, drop, min, arith, ◌∙◌}
use borrow.Rule.Slice.PartMut.{mid_of, put_mid}
use lib.ListN.{length-drop}
use lib.Seq.{sets, take_all}
use native.Mathlib.Nat.{min-eq_left}
use Rattle.laws.proofs.Stored.{to_end_lem, copied_at}

module _ (from to : List ℕ) (h : length from ≤ length to) where
  pub all_copied : {n : ℕ} → n ≡ min (length from) (length to) → n ≡ length from
  all_copied e = e ∙ min-eq_left h

  pub copied_whole : {new : List ℕ} → new ≡ take (min (length from) (length to)) from ++ drop (min (length from) (length to)) to
      → new ≡ from ++ drop (length from) to
  copied_whole e = e ∙ rw (min-eq_left h, take_all (length from) from (omega arith))

-- a copy to the part of a buffer from i on
module _ (w old : List ℕ) (i : ℕ) (h : i + length w ≤ length old) where
  abbrev behind : List ℕ
  behind = mid_of i (length old - i) old

  has_room : length w ≤ length behind
  has_room = rw (to_end_lem old i, length-drop) (omega arith)

  pub part_copied : {part : List ℕ} → part ≡ take (min (length w) (length (mid_of i (length old - i) old))) w ++ drop (min (length w) (length (mid_of i (length old - i) old))) (mid_of i (length old - i) old)
      → put_mid i (length old - i) old part ≡ sets old i w
  part_copied e = copied_at w old i h (let l = has_room in rw (min-eq_left l) at e)
