-- The builder that a call hands back fits the buffer that the call leaves, so that calls one after the other are never refused with 13: what a call
-- remembers is the last byte that it leaves. Assumes nothing.
use mathlib.Core.Path.{◌≡◌, refl, sym}
use mathlib.Core.Logic.{⊎_elim}
use mathlib.Core.Bool.{false}
use mathlib.Core.List.{List, [], ◌∷◌, ◌++◌}
use Rattle.std.specs.Prelude.{Option, None, Some}
use Prim.Native.Nat.{ℕ, zero, suc, ◌+◌, ◌-◌, ◌≤◌, ◌<◌}
use native.Mathlib.Omega.{arith}
use borrow.Author.Tests.{le-ltb, eq-eqb, ne_eqb}
use lib.Dec.{ltb}
use lib.IntN.{ℤ}
use lib.ListN.{length, take, drop, get_or, length-append, get_or-append}
use lib.Seq.{get_or_at}
use Rattle.laws.specs.Said.{Said, answers, refuses, unless}
use Rattle.laws.proofs.Test.{by_test, lt_or_le}
use Rattle.refusal.specs.Refusal.{limit}
use Rattle.script.specs.Walk.{Walked, end, found, opcode, push, walk_says, moved, next_at}
use Rattle.script.specs.Run.{Run, continue, walk_for, walk_from, fold}
use Rattle.script.proofs.Good.{Good, good}
use Rattle.numbers.specs.Answer.{is_least}
use Rattle.numbers.specs.ScriptNum.{serialize}
use Rattle.building.specs.Builder.{State, Call, push_opcode, push_slice, int_opcode, push_number, push_int, verify_form, push_verified, push_verify, opcode_in, unless_refused, last_if_opcode, takes_over}
use Rattle.building.specs.Lent.{not_last, builder_says, built_says, within, leaves, calls, EndsIn, Ends}
use Rattle.building.proofs.Passed.{passes}

-- ---- what a call remembers is its last byte

pub opcode_ends : (code : ℕ) → Ends (push_opcode code)
opcode_ends code st =
    let n : length (st.bytes ++ (code ∷ [])) ≡ length st.bytes + 1 = simp length-append in
    let e : get_or (st.bytes ++ (code ∷ [])) (length (st.bytes ++ (code ∷ [])) - 1) 0 ≡ code = get_or_at st.bytes code [] 0 _ (omega (arith, n)) in
    rw (ne_eqb (length (st.bytes ++ (code ∷ []))) 0 (omega (arith, n)), e, eq-eqb code code refl)

pub slice_ends : (body : List ℕ) → Ends (push_slice body)
unfolding push_slice
slice_ends body st = refl

pub int_ends : (n : ℤ) → Ends (push_int n)
unfolding push_int
int_ends n st = go (int_opcode n)
  where
    go : (o : Option ℕ) → EndsIn (push_number o n st)
    go (Some code) = opcode_ends code st
    go None = by_test EndsIn (is_least n) (λ e. tt) (λ e. slice_ends (serialize n) st)

pub verify_ends : Ends push_verify
unfolding push_verify
verify_ends st = go (verify_form st.remembered)
  where
    go : (o : Option ℕ) → EndsIn (push_verified o st)
    go None = opcode_ends 0x69 st
    go (Some code) = opcode_ends code (record { bytes = take (length st.bytes - 1) st.bytes; remembered = st.remembered })

-- ---- bytes that are taken over: the walk's last opcode is the byte before its end

abbrev LastAt : List ℕ → ℕ → Option ℕ → Type 0
LastAt s p None = Unit {0}
LastAt s p (Some code) = (0 < p) × (get_or s (p - 1) 0 ≡ code)

-- what the walk from here on makes of the last opcode
abbrev final : Option ℕ → Run → Option ℕ
final last run = unless_refused (fold (λ (l : Option ℕ) w. opcode_in w) last run)

module _ (s : List ℕ) where
  step : (n p : ℕ) (last : Option ℕ) (a : Said Walked) → Good false s p a → length s - p < suc n → LastAt s p last
      → ((q : ℕ) (l : Option ℕ) → length s - q < n → LastAt s q l → LastAt s (length s) (final l (walk_for n false s q)))
      → LastAt s (length s) (final last (continue a (walk_for n false s (moved a s p))))
  step n p last (answers end) g h l f = rw g.0 l
  step n p last (answers (found (opcode place code))) g h l f =
      let e : p + 1 - 1 ≡ p = omega arith in
      f (p + 1) (Some code) (omega (arith, g.fits)) (omega arith, rw e (sym g.is))
  step n p last (answers (found (push place form body len))) g h l f = f _ None (omega (arith, g.fits, g.starts)) tt
  step n p last (refuses number values) g h l f = tt

  last_at : (n p : ℕ) (last : Option ℕ) → length s - p < n → LastAt s p last → LastAt s (length s) (final last (walk_for n false s p))
  unfolding walk_for next_at
  last_at zero p last h l = absurd (omega arith)
  last_at (suc n) p last h l = step n p last (walk_says false s p) (good false s p) h l (last_at n)

last_byte : (s : List ℕ) → LastAt s (length s) (last_if_opcode s)
unfolding last_if_opcode walk_from
last_byte s = last_at s (suc (length s - 0)) 0 None (omega arith) tt

pub start_ends : Ends takes_over
start_ends st = go (last_if_opcode st.bytes) (last_byte st.bytes)
  where
    go : (o : Option ℕ) → LastAt st.bytes (length st.bytes) o → not_last o (length st.bytes) st.bytes ≡ false
    go None l = refl
    go (Some code) l = rw (ne_eqb (length st.bytes) 0 (omega arith), l.1, eq-eqb code code refl)

-- ---- the next call

-- what stands after the used bytes does not matter
not_last_more : (o : Option ℕ) (s more : List ℕ) → not_last o (length s) (s ++ more) ≡ not_last o (length s) s
not_last_more None s more = refl
not_last_more (Some code) s more =
    ⊎_elim
    (λ (h : 0 < length s). rw (get_or-append s more 0 (length s - 1) (omega arith)))
    (λ (z : length s ≤ 0). rw (eq-eqb (length s) 0 (omega arith)))
    (lt_or_le 0 (length s))

fits_next : (st : State) (buffer : List ℕ) → EndsIn (answers st) → built_says (length st.bytes) (length buffer) ≡ answers tt
    → builder_says (length st.bytes) st.remembered (st.bytes ++ drop (length st.bytes) buffer) ≡ answers tt
unfolding builder_says built_says
fits_next st buffer e b =
    let l = (passes (ltb limit (length st.bytes)) _ _ _ b).0 in
    let n : length st.bytes ≤ length (st.bytes ++ drop (length st.bytes) buffer) = simp length-append (omega arith) in
    rw (l, le-ltb (length (st.bytes ++ drop (length st.bytes) buffer)) (length st.bytes) n, not_last_more st.remembered st.bytes _, e)

module _ (used : ℕ) (remembered : Option ℕ) (buffer : List ℕ) where
  abbrev Right : Said State → Type 0
  Right w =
      (leaves w used remembered buffer).said ≡ answers tt
      → builder_says (leaves w used remembered buffer).used (leaves w used remembered buffer).remembered (leaves w used remembered buffer).buffer ≡ answers tt

  built_next : (st : State) → EndsIn (answers st) → (b : Said (Unit {0})) → built_says (length st.bytes) (length buffer) ≡ b → Right (unless b (answers st))
  built_next st e (answers done) h s = fits_next st buffer e h
  built_next st e (refuses number values) h s = absurd (let z : ◌≡◌ {A = ℕ} 0 1 = cc in omega arith)

  given_next : (b : Said (Unit {0})) (w : Said State) → EndsIn w → Right (unless b (within (length buffer) w))
  given_next (refuses number values) w e s = absurd (let z : ◌≡◌ {A = ℕ} 0 1 = cc in omega arith)
  given_next (answers done) (refuses number values) e s = absurd (let z : ◌≡◌ {A = ℕ} 0 1 = cc in omega arith)
  given_next (answers done) (answers st) e s = built_next st e (built_says (length st.bytes) (length buffer)) refl s

  -- After a call that is not refused, the next one over the buffer that it leaves is refused neither with 13 nor for its used length.
  pub next_taken : (call : Call) → Ends call → (calls call used remembered buffer).said ≡ answers tt
      → builder_says (calls call used remembered buffer).used (calls call used remembered buffer).remembered (calls call used remembered buffer).buffer ≡ answers tt
  unfolding calls
  next_taken call ends =
      given_next (builder_says used remembered buffer) (call (record { bytes = take used buffer; remembered = remembered })) (ends _)
