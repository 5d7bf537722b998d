-- What holds of every answer of a call: an instruction stands where it was asked for, whole, and ends further on within the script.
-- Assumes nothing.
use mathlib.Core.Path.{◌≡◌, refl, sym, subst}
use mathlib.Core.Bool.{Bool, false, ◌&&◌}
use mathlib.Core.List.{List}
use Prim.Native.Nat.{ℕ, ◌+◌, ◌-◌, ◌≤◌, ◌<◌}
use native.Mathlib.Omega.{arith}
use borrow.Author.Tests.{ltb-false, eqb-true, eqb-false}
use lib.Dec.{ltb, eqb}
use lib.ListN.{length, get_or, take, drop, length-drop}
use lib.Seq.{length-take-le}
use Rattle.laws.specs.Said.{Said, answers, refuses}
use Rattle.laws.proofs.Test.{by_test}
use Rattle.refusal.specs.Refusal.{limit}
use Rattle.opcodes.specs.Opcode.{PushForm, length_bytes, Sort, sort_of}
use Rattle.opcodes.specs.Opcode as sort
use Rattle.script.specs.Script.{ScriptOp, fails, reads, assign, lacks}
use Rattle.script.specs.Walk.{Walked, end, found, opcode, push, not_minimal, cut_not_minimal, judged, walk_says}
use Rattle.script.specs.Steps.{stated}
use Rattle.script.proofs.Step.{inside, by_lack, push_code, number_code, plain_code, push_read, opcode_says}

-- an opcode stands at p
pub record OpcodeAt (s : List ℕ) (p place code : ℕ) : Type 0 where
  pub here : place ≡ p
  pub fits : p + 1 ≤ length s
  pub small : length s ≤ limit
  pub is : code ≡ get_or s p 0
  pub above : 78 < code

-- a push stands at p: its length bytes follow the opcode, its body follows them
pub record PushAt (minimal : Bool) (s : List ℕ) (p place : ℕ) (form : PushForm) (body len : ℕ) : Type 0 where
  pub here : place ≡ p
  pub starts : body ≡ p + 1 + length_bytes form
  pub fits : body + len ≤ length s
  pub small : length s ≤ limit
  pub form_is : sort_of (get_or s p 0) ≡ sort.push form
  pub says : len ≡ stated (length_bytes form) s p
  pub least : (minimal && not_minimal (get_or s p 0) (take len (drop body s))) ≡ false

abbrev pub Good : Bool → List ℕ → ℕ → Said Walked → Type 0
Good minimal s p (answers end) = (length s ≡ p) × (length s ≤ limit)
Good minimal s p (answers (found (opcode place code))) = OpcodeAt s p place code
Good minimal s p (answers (found (push place form body len))) = PushAt minimal s p place form body len
Good minimal s p (refuses number values) = Unit {0}

module _ (minimal : Bool) (s : List ℕ) (p : ℕ) (l : length s ≤ limit) (h : p < length s) where
  abbrev Fine : Said Walked → Type 0
  Fine = Good minimal s p

  refused : Fine (judged minimal s p fails)
  refused = by_test Fine (minimal && cut_not_minimal s p) (λ e. tt) (λ e. by_lack Fine p (lacks s p) (λ m. tt) (λ m. tt))

  whole : (form : PushForm) → sort_of (get_or s p 0) ≡ sort.push form → p + 1 + length_bytes form ≤ length s
      → stated (length_bytes form) s p ≤ length s - (p + 1 + length_bytes form)
      → Fine (judged minimal s p (reads (get_or s p 0) (take (stated (length_bytes form) s p) (drop (p + 1 + length_bytes form) s)) (p + 1 + length_bytes form + stated (length_bytes form) s p)))
  whole form k there w =
      let b : ℕ = p + 1 + length_bytes form in
      let n : ℕ = stated (length_bytes form) s p in
      let e : length (take n (drop b s)) ≡ n = length-take-le n (drop b s) (simp length-drop w) in
      by_test Fine (minimal && not_minimal (get_or s p 0) (take n (drop b s))) (λ t. tt)
      (λ t. rw (k, e) (record { here = refl; starts = refl; fits = omega arith; small = l; form_is = k; says = refl; least = t }))

  good_sort : (k : Sort) → sort_of (get_or s p 0) ≡ k → Fine (walk_says minimal s p)
  unfolding assign
  good_sort (sort.push form) e =
      let b : ℕ = p + 1 + length_bytes form in
      let n : ℕ = stated (length_bytes form) s p in
      let P : ScriptOp → Type 0 = λ o. Fine (judged minimal s p o) in
      subst Fine (sym (inside minimal s p l h))
      (subst P (sym (push_read s p h form (push_code (get_or s p 0) form e)))
      (by_test P (ltb (length s) b) (λ t. refused) λ t.
      by_test P (ltb (length s - b) n) (λ u. refused) λ u. whole form e (ltb-false (length s) b t) (ltb-false (length s - b) n u)))
  good_sort sort.number e =
      let o = number_code (get_or s p 0) e in
      rw (opcode_says minimal s p l h o) (record { here = refl; fits = omega arith; small = l; is = refl; above = o })
  good_sort sort.plain e =
      let o = plain_code (get_or s p 0) e in
      rw (opcode_says minimal s p l h o) (record { here = refl; fits = omega arith; small = l; is = refl; above = o })

pub good : (minimal : Bool) (s : List ℕ) (p : ℕ) → Good minimal s p (walk_says minimal s p)
unfolding walk_says
good minimal s p =
    let P : Said Walked → Type 0 = Good minimal s p in
    by_test P (ltb limit (length s)) (λ e. tt) λ e.
    by_test P (ltb (length s) p) (λ e₁. tt) λ e₁.
    by_test P (eqb (length s) p) (λ e₂. (eqb-true _ _ e₂, ltb-false _ _ e)) λ e₂.
    let l : length s ≤ limit = ltb-false _ _ e in
    let h : p < length s = omega (arith, ltb-false (length s) p e₁, eqb-false (length s) p e₂) in
    subst P (inside minimal s p l h) (good_sort minimal s p l h (sort_of (get_or s p 0)) refl)

-- of the answer that a call gave
pub good_answer : (minimal : Bool) (s : List ℕ) (p : ℕ) (a : Said Walked) → walk_says minimal s p ≡ a → Good minimal s p a
good_answer minimal s p a e = subst (Good minimal s p) e (good minimal s p)
