-- The bytes of an instruction where they stand in a script: the opcode, the length bytes, the body. An opcode above 78 is seen as one
-- with no length bytes and no body. Assumes nothing.
use mathlib.Core.Path.{◌≡◌, refl, sym, ap, ◌∙◌}
use mathlib.Core.List.{List, ◌∷◌, ◌++◌}
use Prim.Native.Nat.{ℕ, zero, suc, ◌+◌, ◌*◌, ◌/◌, ◌%◌, ◌^◌, ◌≤◌, ◌<◌}
use native.Mathlib.Nat.{pow-suc}
use native.Mathlib.Numerals.{add-one}
use native.Mathlib.Omega.{arith}
use lib.ListN.{length, get_or, take, drop, length-append, length-take, length-drop}
use lib.Seq.{drop-cons, take-add, drop-drop, length-take-le, take_at, drop_at}
use Rattle.opcodes.specs.Opcode.{length_bytes}
use Rattle.script.specs.Script.{read_le}
use Rattle.script.specs.Instruction.{Instruction, opcode, push, Bytes, write_le, encode, size, code_of, data_of}

-- ---- a number in k bytes

pub write_length : (k n : ℕ) → length (write_le k n) ≡ k
unfolding write_le
write_length zero n = refl
write_length (suc k) n = ap suc (write_length k (n / 256))

-- what is read and written again is what stood there
pub write_read : (s : List ℕ) → Bytes s → (k p : ℕ) → p + k ≤ length s → write_le k (read_le k s p) ≡ take k (drop p s)
unfolding write_le read_le
write_read s b zero p h = refl
write_read s b (suc k) p h =
    let d : p < length s = omega arith in
    let m : (get_or s p 0 + 256 * read_le k s (suc p)) % 256 ≡ get_or s p 0 = omega (arith, b p) in
    let q : (get_or s p 0 + 256 * read_le k s (suc p)) / 256 ≡ read_le k s (suc p) = omega (arith, b p) in
    rw (m, q, drop-cons s p 0 d, write_read s b k (suc p) (omega arith))

-- what is written and read again is the number
pub read_written : (s : List ℕ) (k p n : ℕ) → p + k ≤ length s → n < 256 ^ k → take k (drop p s) ≡ write_le k n → read_le k s p ≡ n
unfolding write_le read_le
read_written s zero p n h l e = omega arith
read_written s (suc k) p n h l e =
    let d : p < length s = omega arith in
    let c : get_or s p 0 ∷ take k (drop (suc p) s) ≡ n % 256 ∷ write_le k (n / 256) = rw (drop-cons s p 0 d) at e in
    let m : get_or s p 0 ≡ n % 256 = cc in
    let t : take k (drop (suc p) s) ≡ write_le k (n / 256) = cc in
    omega (arith, m, read_written s k (suc p) (n / 256) (omega arith) (omega (arith, pow-suc 256 k)) t)

-- ---- an instruction

-- how many length bytes it has
abbrev pub before : Instruction → ℕ
before (opcode code) = 0
before (push form body) = length_bytes form

encode_is : (i : Instruction) → encode i ≡ code_of i ∷ (write_le (before i) (length (data_of i)) ++ data_of i)
unfolding encode write_le
encode_is (opcode code) = refl
encode_is (push form body) = refl

pub size_is : (i : Instruction) → size i ≡ suc (before i + length (data_of i))
size_is (opcode code) = omega arith
size_is (push form body) = omega arith

pub encode_length : (i : Instruction) → length (encode i) ≡ size i
encode_length i = simp (encode_is, size_is, length-append, write_length)

-- its three parts stand one after the other from a position on
pub record Laid (s : List ℕ) (at : ℕ) (i : Instruction) : Type 0 where
  pub fits : at + size i ≤ length s
  pub code : get_or s at 0 ≡ code_of i
  pub lengths : take (before i) (drop (at + 1) s) ≡ write_le (before i) (length (data_of i))
  pub body : take (length (data_of i)) (drop (at + 1 + before i) s) ≡ data_of i

-- two joins whose first parts are as long
apart : (k : ℕ) (a b c d : List ℕ) → length a ≡ k → length b ≡ k → a ++ c ≡ b ++ d → (a ≡ b) × (c ≡ d)
apart k a b c d l m e = (sym (take_at a c k l) ∙ ap (take k) e ∙ take_at b d k m, sym (drop_at a c k l) ∙ ap (drop k) e ∙ drop_at b d k m)

module _ (s : List ℕ) (at : ℕ) (i : Instruction) where
  abbrev k : ℕ
  k = before i

  abbrev n : ℕ
  n = length (data_of i)

  parts : at < length s → take (suc (k + n)) (drop at s) ≡ get_or s at 0 ∷ (take k (drop (at + 1) s) ++ take n (drop (at + 1 + k) s))
  parts h = rw (add-one at, drop-cons s at 0 h, take-add k n (drop (suc at) s), drop-drop k (suc at) s)

  pub laid_bytes : Laid s at i → take (size i) (drop at s) ≡ encode i
  laid_bytes l = rw (size_is, parts (omega (arith, l.fits, size_is i)), l.code, l.lengths, l.body, encode_is)

  pub bytes_laid : take (length (encode i)) (drop at s) ≡ encode i → Laid s at i
  bytes_laid e =
      let e₁ : take (suc (k + n)) (drop at s) ≡ encode i = rw (encode_length, size_is) at e in
      let f : at + 1 + k + n ≤ length s = omega (arith, simp (length-take, length-drop, encode_length, size_is) at (ap length e₁)) in
      let e₂ : get_or s at 0 ∷ (take k (drop (at + 1) s) ++ take n (drop (at + 1 + k) s)) ≡ code_of i ∷ (write_le k n ++ data_of i) =
      sym (parts (omega arith)) ∙ e₁ ∙ encode_is i in
      let len : length (take k (drop (at + 1) s)) ≡ k = length-take-le k (drop (at + 1) s) (simp length-drop (omega arith)) in
      let two = apart k (take k (drop (at + 1) s)) (write_le k n) (take n (drop (at + 1 + k) s)) (data_of i) len (write_length k n) (cc) in
      record { fits = omega (arith, size_is i); code = cc; lengths = two.0; body = two.1 }
