-- A piece behind what is shown leaves zeros behind it. Assumes nothing.
use mathlib.Core.Path.{◌≡◌, sym, ◌∙◌}
use mathlib.Core.List.{List, ◌++◌}
use Prim.Native.Nat.{ℕ, ◌+◌, ◌-◌, ◌≤◌}
use native.Mathlib.Omega.{arith}
use lib.ListN.{length, take, drop, replicate, length-append}
use lib.Seq.{sets, length-take-le, drop-drop, drop-append_seam}
use Rattle.std.proofs.lemmas.List.{drop-replicate}
use Rattle.laws.proofs.Stored.{stored}

pub zeros_left : (bytes : List ℕ) (len : ℕ) (piece : List ℕ) → length bytes ≡ 160 → len + length piece ≤ 160 → drop len bytes ≡ replicate (160 - len) 0
    → drop (len + length piece) (sets bytes len piece) ≡ replicate (160 - (len + length piece)) 0
zeros_left bytes len piece h m z =
    let t : length (take len bytes) ≡ len = length-take-le len bytes (omega (arith, h, m)) in
    let w : length (take len bytes ++ piece) ≡ len + length piece = simp (length-append, t) in
    let s : sets bytes len piece ≡ (take len bytes ++ piece) ++ drop (len + length piece) bytes = stored bytes len piece (omega (arith, h)) ∙ rw w in
    let d : drop (len + length piece) bytes ≡ replicate (160 - len - length piece) 0 = sym (drop-drop (length piece) len bytes) ∙ rw z (drop-replicate (length piece) (160 - len) 0) in
    let n : 160 - len - length piece ≡ 160 - (len + length piece) = omega (arith, m) in
    rw (s, sym w, drop-append_seam, w, d, n)
