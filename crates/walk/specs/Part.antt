-- A part of a slice that is handed back: its bytes, and that it is the caller's own memory and no copy. Assumes nothing.
use Rattle.std.specs.Prelude.{◌≡◌, List, ℕ, ◌+◌, take, drop}
use Rattle.std.specs.Borrow.{Bor}
use Rattle.laws.specs.Said.{Said, answers, refuses}
use Rattle.script.specs.Walk.{Walked, end, found, opcode, push}

-- the n bytes of s from b on, where they lie
pub record Part (r s : Bor (List ℕ)) (b n : ℕ) : Type 0 where
  pub bytes : r.now ≡ take n (drop b s.now)
  pub lies : r.ref_ptr ≡ (s.ref_ptr.0, b + s.ref_ptr.1)

-- where a push's body starts; for all else the script's front
abbrev pub body_place : Said Walked → ℕ
body_place (answers end) = 0
body_place (answers (found (opcode place code))) = 0
body_place (answers (found (push place form body len))) = body
body_place (refuses number values) = 0

-- how long it is; for all else empty
abbrev pub body_len : Said Walked → ℕ
body_len (answers end) = 0
body_len (answers (found (opcode place code))) = 0
body_len (answers (found (push place form body len))) = len
body_len (refuses number values) = 0
