-- Where the bytes of an instruction stand, GetScriptOp reads that instruction, so that bytes have one reading. Assumes nothing.
use mathlib.Core.Path.{◌≡◌, refl, sym, ap, ap₂, ◌∙◌, subst}
use mathlib.Core.List.{List, [], ◌∷◌, ◌++◌, append_cancel_left}
use Prim.Native.Nat.{ℕ, ◌+◌, ◌-◌, ◌≤◌}
use native.Mathlib.Omega.{arith}
use borrow.Author.Tests.{lt-ltb, le-ltb}
use lib.ListN.{length, length-append}
use lib.Seq.{take-append_seam}
use Rattle.opcodes.specs.Opcode.{PushForm, direct, pushdata1, pushdata2, pushdata4, length_bytes, Sort, sort_of}
use Rattle.opcodes.specs.Opcode as sort
use Rattle.script.specs.Script.{reads, assign, get_script_op}
use Rattle.script.specs.Steps.{stated}
use Rattle.script.specs.Instruction.{Instruction, opcode, push, most_stated, Stands, opcode_of, encode, encode_all, size, code_of, data_of, Each}
use Rattle.script.proofs.Minimal.{IsOf}
use Rattle.script.proofs.Step.{by_sort, opcode_read, push_read}
use Rattle.script.proofs.Encoding.{read_written, size_is, encode_length, Laid, bytes_laid}

-- ---- where the bytes stand, they are read

pub form_code : (form : PushForm) (n : ℕ) → n ≤ most_stated form → IsOf form (opcode_of form n)
form_code direct n h = omega arith
form_code pushdata1 n h = refl
form_code pushdata2 n h = refl
form_code pushdata4 n h = refl

module _ (s : List ℕ) (at : ℕ) where
  says_length : (form : PushForm) (body : List ℕ) → length body ≤ most_stated form → Laid s at (push form body) → stated (length_bytes form) s at ≡ length body
  unfolding stated
  says_length direct body m l = l.code
  says_length pushdata1 body m l = read_written s 1 (at + 1) (length body) (omega (arith, l.fits)) (omega arith) l.lengths
  says_length pushdata2 body m l = read_written s 2 (at + 1) (length body) (omega (arith, l.fits)) (omega arith) l.lengths
  says_length pushdata4 body m l = read_written s 4 (at + 1) (length body) (omega (arith, l.fits)) (omega arith) l.lengths

  pub laid_reads : (i : Instruction) → Stands i → Laid s at i → get_script_op s at ≡ reads (code_of i) (data_of i) (at + size i)
  unfolding assign
  laid_reads (opcode code) st l =
      opcode_read s at (omega (arith, l.fits)) (omega (arith, l.code, st.0)) ∙ rw l.code
  laid_reads (push form body) st l =
      let start : ℕ = at + 1 + length_bytes form in
      let n = says_length form body st.0 l in
      let next : start + length body ≡ at + (1 + length_bytes form + length body) = omega arith in
      push_read s at (omega (arith, l.fits)) form (subst (IsOf form) (sym l.code) (form_code form (length body) st.0))
      ∙ rw (le-ltb (length s) start (omega (arith, l.fits)), n, le-ltb (length s - start) (length body) (omega (arith, l.fits)), l.code, l.body, next)

-- ---- one reading

-- the instruction with an opcode and data
abbrev rebuilt : ℕ → List ℕ → Sort → Instruction
rebuilt code vch (sort.push form) = push form vch
rebuilt code vch sort.number = opcode code
rebuilt code vch sort.plain = opcode code

rebuilt_same : (i : Instruction) → Stands i → rebuilt (code_of i) (data_of i) (sort_of (code_of i)) ≡ i
rebuilt_same (opcode code) st =
    by_sort code (λ k. rebuilt code [] k ≡ opcode code) (λ e. absurd (omega (arith, st.0))) (λ e. absurd (omega (arith, st.0))) (λ e. absurd (omega (arith, st.0)))
    (λ e. absurd (omega (arith, st.0))) (λ e. refl) (λ e. refl)
rebuilt_same (push direct body) st = rw (lt-ltb (length body) 76 (omega (arith, st.0)))
rebuilt_same (push pushdata1 body) st = refl
rebuilt_same (push pushdata2 body) st = refl
rebuilt_same (push pushdata4 body) st = refl

pub same_instruction : (i j : Instruction) → Stands i → Stands j → code_of i ≡ code_of j → data_of i ≡ data_of j → i ≡ j
same_instruction i j p q c d = sym (rebuilt_same i p) ∙ rw (c, d) (rebuilt_same j q)

first_reads : (i : Instruction) (rest : List ℕ) → Stands i → get_script_op (encode i ++ rest) 0 ≡ reads (code_of i) (data_of i) (0 + size i)
first_reads i rest p = laid_reads (encode i ++ rest) 0 i p (bytes_laid (encode i ++ rest) 0 i (take-append_seam (encode i) rest))

some_byte : (i : Instruction) (rest : List ℕ) → encode i ++ rest ≡ [] → ⊥
some_byte i rest e = omega (arith, size_is i, simp (length-append, encode_length) at (ap length e))

-- Two lists of instructions whose encodings, joined, are equal are the same list.
pub one_reading : (xs ys : List Instruction) → Each Stands xs → Each Stands ys → encode_all xs ≡ encode_all ys → xs ≡ ys
unfolding encode_all
one_reading [] [] p q e = refl
one_reading [] (j ∷ js) p q e = absurd (some_byte j (encode_all js) (sym e))
one_reading (i ∷ is) [] p q e = absurd (some_byte i (encode_all is) e)
one_reading (i ∷ is) (j ∷ js) p q e =
    let r = first_reads i (encode_all is) p.0 in
    let t = first_reads j (encode_all js) q.0 in
    let first : i ≡ j = same_instruction i j p.0 q.0 (cc) (cc) in
    let rest : encode_all is ≡ encode_all js = append_cancel_left (encode j) (encode_all is) (encode_all js) (rw first at e) in
    ap₂ ◌∷◌ first (one_reading is js p.1 q.1 rest)
