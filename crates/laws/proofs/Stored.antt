-- Runs of bytes stored in a buffer: what `copying::copy` leaves there, and runs one behind the other. Assumes nothing.
use mathlib.Core.Path.{◌≡◌, ap, ◌∙◌}
use mathlib.Core.List.{List, [], ◌∷◌, ◌++◌, append-nil, append_assoc}
use Prim.Native.Nat.{ℕ, suc, ◌+◌, ◌-◌, ◌≤◌}
use native.Mathlib.Nat.{add-zero, zero-add, add-suc, suc-add}
use native.Mathlib.Omega.{arith}
use borrow.Rule.Slice.PartMut.{mid_of, post_of, put_mid}
use lib.ListN.{length, take, drop, set, length-append, length-drop, drop_of_length-le}
use lib.Seq.{sets, sets-eq, length-take-le, take_all, drop-drop}

-- two runs, the second behind the first, are one
pub stored_both : (l : List ℕ) (i : ℕ) (a b : List ℕ) → sets l i (a ++ b) ≡ sets (sets l i a) (i + length a) b
stored_both l i [] b = rw add-zero
stored_both l i (x ∷ a) b = stored_both (set l i x) (suc i) a b ∙ rw (suc-add, add-suc)

-- what stands before a run is kept, and so is what stands after it
pub stored : (l : List ℕ) (i : ℕ) (w : List ℕ) → i + length w ≤ length l → sets l i w ≡ (take i l ++ w) ++ drop (length (take i l ++ w)) l
stored l i w h =
    let e : length (take i l ++ w) ≡ i + length w = simp (length-append, length-take-le i l (omega arith)) in
    sets-eq w l i h ∙ rw (e, append_assoc)

-- the part of a slice from i to its end
pub to_end_lem : (l : List ℕ) (i : ℕ) → take (length l - i) (drop i l) ≡ drop i l
to_end_lem l i = take_all (length l - i) (drop i l) (simp length-drop (omega arith))

module _ (w old : List ℕ) where
  -- a copy to the front of a buffer
  pub copied : {new : List ℕ} → new ≡ take (length w) w ++ drop (length w) old → new ≡ w ++ drop (length w) old
  copied e = e ∙ rw (take_all (length w) w (omega arith))

  -- a copy to the part of a buffer from i on
  pub copied_at : (i : ℕ) {part : List ℕ} → i + length w ≤ length old → part ≡ take (length w) w ++ drop (length w) (mid_of i (length old - i) old)
      → put_mid i (length old - i) old part ≡ sets old i w
  copied_at i {part} h e =
      let m : mid_of i (length old - i) old ≡ drop i old = to_end_lem old i in
      let l : length (drop i old) ≤ length old - i = simp length-drop (omega arith) in
      let z : post_of i (length old - i) old ≡ [] = drop_of_length-le (drop i old) l in
      let d : drop (length w) (drop i old) ≡ drop (i + length w) old = drop-drop (length w) i old in
      rw (z, append-nil, sets-eq w old i h, append_assoc) (ap (λ (r : List ℕ). take i old ++ r) (e ∙ rw (m, d, take_all (length w) w (omega arith))))

-- a run at the front of a buffer
pub stored_front : {A : Type 0} (w old : List A) → length w ≤ length old → sets old 0 w ≡ w ++ drop (length w) old
stored_front w old h = sets-eq w old 0 (omega arith) ∙ rw zero-add
