-- What a call says, in the order in which the code tests: the length bytes, minimality, the body. Core reads a push whole before it judges it,
-- and difference (g) judges one that is cut, so that both orders come to the same. Assumes nothing.
use mathlib.Core.Path.{◌≡◌, refl, sym, ap, ◌∙◌, subst}
use mathlib.Core.Logic.{◌⊎◌, inl, inr, ⊎_elim}
use mathlib.Core.Bool.{Bool, true, false, ◌&&◌, ◌||◌, and-false}
use mathlib.Core.List.{List, [], ◌∷◌}
use Prim.Native.Nat.{ℕ, ◌+◌, ◌-◌, ◌≤◌, ◌<◌}
use native.Mathlib.Nat.{add-zero}
use native.Mathlib.Omega.{arith}
use borrow.Author.Tests.{lt-ltb, le-ltb, le-leb, lt-leb, eq-eqb, ne_eqb, ltb-true, ltb-false, eqb-true, eqb-false}
use lib.Dec.{ltb, leb, eqb}
use lib.ListN.{length, get_or, take, drop, length-drop}
use lib.Seq.{length-take-le, get_or-take, get_or-drop}
use Rattle.std.specs.Prelude.{if◌then◌else◌}
use Rattle.laws.specs.Said.{Said, answers, refuses}
use Rattle.laws.proofs.Test.{by_test, lt_or_le}
use Rattle.refusal.specs.Refusal.{limit}
use Rattle.opcodes.specs.Opcode.{PushForm, direct, pushdata1, pushdata2, pushdata4, length_bytes, Sort, sort_of}
use Rattle.opcodes.specs.Opcode as sort
use Rattle.script.specs.Script.{
  ScriptOp,
  fails,
  reads,
  assign,
  sized,
  operand,
  get_script_op,
  Lack,
  of_length,
  of_body,
  assign_lacks,
  sized_lacks,
  operand_lacks,
  lacks,
}
use Rattle.script.specs.Walk.{
  Item,
  Walked,
  end,
  found,
  opcode,
  push,
  walked,
  not_minimal,
  says_less,
  cut_form,
  cut_not_minimal,
  cut,
  judged,
  walk_says,
  moved,
  next_at,
}
use Rattle.script.specs.Instruction.{Bytes, most_stated, wasteful}
use Rattle.script.specs.Instruction as instruction
use Rattle.script.proofs.Little.{le_below}
use Rattle.script.proofs.Minimal.{IsOf, minimal_same}
use Rattle.script.specs.Steps.{stated, is_number, short_form, too_short}

-- ---- before the instruction

module _ (minimal : Bool) (s : List ℕ) (at : ℕ) where
  pub too_long : limit < length s → walk_says minimal s at ≡ refuses 1 []
  unfolding walk_says
  too_long h = simp (lt-ltb _ _ h)

  pub bad_cursor : length s ≤ limit → length s < at → walk_says minimal s at ≡ refuses 8 []
  unfolding walk_says
  bad_cursor l h = simp (le-ltb _ _ l, lt-ltb _ _ h)

  pub at_end : length s ≤ limit → length s ≡ at → walk_says minimal s at ≡ answers end
  unfolding walk_says
  at_end l h = simp (le-ltb _ _ l, le-ltb (length s) at (omega arith), eq-eqb _ _ h)

  pub inside : length s ≤ limit → at < length s → walk_says minimal s at ≡ judged minimal s at (get_script_op s at)
  unfolding walk_says
  inside l h = simp (le-ltb _ _ l, le-ltb (length s) at (omega arith), ne_eqb (length s) at (omega arith))

-- both ways of a read that lacks something
pub by_lack : (P : Said Walked → Type 0) (place : ℕ) (k : Lack) → ((missing : ℕ) → P (refuses 14 (place ∷ missing ∷ [])))
    → ((missing : ℕ) → P (refuses 15 (place ∷ missing ∷ []))) → P (cut place k)
by_lack P place (of_length missing) f g = f missing
by_lack P place (of_body missing) f g = g missing

-- ---- what the sort of an opcode says of its number

-- both ways of each test of `sort_of`
pub by_sort : (b : ℕ) (P : Sort → Type 0)
    → (b < 76 → P (sort.push direct)) → (b ≡ 76 → P (sort.push pushdata1)) → (b ≡ 77 → P (sort.push pushdata2)) → (b ≡ 78 → P (sort.push pushdata4))
    → (78 < b → P sort.plain) → (78 < b → P sort.number) → P (sort_of b)
by_sort b P d p q r o n =
    by_test P (ltb b 76) (λ e. d (ltb-true b 76 e)) λ e₀.
    by_test P (eqb b 76) (λ e. p (eqb-true b 76 e)) λ e₁.
    by_test P (eqb b 77) (λ e. q (eqb-true b 77 e)) λ e₂.
    by_test P (eqb b 78) (λ e. r (eqb-true b 78 e)) λ e₃.
    let h : 78 < b = omega (arith, ltb-false b 76 e₀, eqb-false b 76 e₁, eqb-false b 77 e₂, eqb-false b 78 e₃) in
    by_test P (ltb b 0x51) (λ e. o h) λ e₄. by_test P (ltb b 0x61) (λ e. n h) (λ e. o h)

abbrev SortIs : ℕ → Sort → Type 0
SortIs b (sort.push form) = IsOf form b
SortIs b sort.number = 78 < b
SortIs b sort.plain = 78 < b

pub sort_is : (b : ℕ) → SortIs b (sort_of b)
sort_is b = by_sort b (SortIs b) (λ h. h) (λ h. h) (λ h. h) (λ h. h) (λ h. h) (λ h. h)

pub push_code : (b : ℕ) (form : PushForm) → sort_of b ≡ sort.push form → IsOf form b
push_code b form e = subst (SortIs b) e (sort_is b)

pub number_code : (b : ℕ) → sort_of b ≡ sort.number → 78 < b
number_code b e = subst (SortIs b) e (sort_is b)

pub plain_code : (b : ℕ) → sort_of b ≡ sort.plain → 78 < b
plain_code b e = subst (SortIs b) e (sort_is b)

-- ---- GetScriptOp, by the form of the push

-- `end - pc < k` and `end < pc + k`
same_test : (n p k : ℕ) → p ≤ n → ltb (n - p) k ≡ ltb n (p + k)
same_test n p k h =
    ⊎_elim
    (λ l. rw (lt-ltb (n - p) k (omega arith), lt-ltb n (p + k) l))
    (λ g. rw (le-ltb (n - p) k (omega arith), le-ltb n (p + k) g))
    (lt_or_le n (p + k))

-- `k - (end - pc)` and `pc + k - end`
same_lack : (n p k : ℕ) → p ≤ n → k - (n - p) ≡ p + k - n
same_lack n p k h = omega arith

module _ (s : List ℕ) (at : ℕ) (h : at < length s) where
  pub opcode_read : 78 < get_or s at 0 → get_script_op s at ≡ reads (get_or s at 0) [] (at + 1)
  unfolding get_script_op operand
  opcode_read o = simp (lt-leb (length s) at h, lt-leb _ _ o)

  -- after the length bytes, where they are there
  abbrev pub read_body : PushForm → ScriptOp
  read_body form =
      if ltb (length s) (at + 1 + length_bytes form) then fails
      else assign (get_or s at 0) (stated (length_bytes form) s at) s (at + 1 + length_bytes form)

  pub push_read : (form : PushForm) → IsOf form (get_or s at 0) → get_script_op s at ≡ read_body form
  unfolding get_script_op operand sized stated
  push_read direct o =
      simp (lt-leb (length s) at h, le-leb (get_or s at 0) 78 (omega arith), lt-ltb _ _ o, add-zero, le-ltb (length s) (at + 1) (omega arith))
  push_read pushdata1 o = simp (lt-leb (length s) at h, o, same_test (length s) (at + 1) 1 (omega arith))
  push_read pushdata2 o = simp (lt-leb (length s) at h, o, same_test (length s) (at + 1) 2 (omega arith))
  push_read pushdata4 o = simp (lt-leb (length s) at h, o, same_test (length s) (at + 1) 4 (omega arith))

  pub opcode_lacks : 78 < get_or s at 0 → lacks s at ≡ of_body 0
  unfolding lacks operand_lacks
  opcode_lacks o = rw (lt-leb _ _ o)

  -- what it lacks where it fails
  abbrev pub body_lacks : PushForm → Lack
  body_lacks form =
      if ltb (length s) (at + 1 + length_bytes form) then of_length (at + 1 + length_bytes form - length s)
      else of_body (stated (length_bytes form) s at - (length s - (at + 1 + length_bytes form)))

  pub push_lacks : (form : PushForm) → IsOf form (get_or s at 0) → lacks s at ≡ body_lacks form
  unfolding lacks operand_lacks sized_lacks assign_lacks stated
  push_lacks direct o = simp (le-leb (get_or s at 0) 78 (omega arith), lt-ltb _ _ o, add-zero, le-ltb (length s) (at + 1) (omega arith))
  push_lacks pushdata1 o = simp (o, same_test (length s) (at + 1) 1 (omega arith), same_lack (length s) (at + 1) 1 (omega arith))
  push_lacks pushdata2 o = simp (o, same_test (length s) (at + 1) 2 (omega arith), same_lack (length s) (at + 1) 2 (omega arith))
  push_lacks pushdata4 o = simp (o, same_test (length s) (at + 1) 4 (omega arith), same_lack (length s) (at + 1) 4 (omega arith))

-- ---- a push, in the order of the code

or_last : (x : Bool) → (if x then true else false) ≡ (x || false)
or_last true = refl
or_last false = refl

one_or_not : (n : ℕ) → (n ≡ 1) ⊎ (n ≡ 1 → ⊥)
one_or_not n = ⊎_elim (λ l. ⊎_elim (λ z. inr (omega arith)) (λ p. inl (omega arith)) (lt_or_le n 1)) (λ g. inr (omega arith)) (lt_or_le n 2)

number_test : (b : ℕ) → (if eqb b 0x81 then true else if ltb b 1 then false else ltb b 17) ≡ (eqb b 0x81 || (leb 1 b && leb b 16))
number_test b =
    ⊎_elim
    (λ z. rw (ne_eqb b 0x81 (omega arith), lt-ltb b 1 z, lt-leb 1 b (omega arith)))
    (λ p. ⊎_elim
    (λ l. rw (ne_eqb b 0x81 (omega arith), le-ltb b 1 p, le-leb 1 b p, lt-ltb b 17 l, le-leb b 16 (omega arith)))
    (λ g. rw (le-ltb b 1 p, le-leb 1 b p, le-ltb b 17 g, lt-leb b 16 (omega arith)) (or_last (eqb b 0x81)))
    (lt_or_le b 17))
    (lt_or_le b 1)

-- what the code tests is what document 01 says of the whole push
body_wasteful : (form : PushForm) (s : List ℕ) (b n : ℕ) → b + n ≤ length s → short_form form s b n ≡ wasteful (instruction.push form (take n (drop b s)))
unfolding is_number
body_wasteful direct s b n h =
    let l : length (take n (drop b s)) ≡ n = length-take-le n (drop b s) (simp length-drop (omega arith)) in
    ⊎_elim
    (λ (o : n ≡ 1).
    let p : 0 < n = omega arith in
    let first : get_or (take n (drop b s)) 0 0 ≡ get_or s b 0 = simp (get_or-take, get_or-drop, add-zero) in
    simp (l, first, eq-eqb n 1 o, lt-ltb b (length s) (omega arith)) (number_test (get_or s b 0)))
    (λ (m : n ≡ 1 → ⊥). simp (l, ne_eqb n 1 m))
    (one_or_not n)
body_wasteful pushdata1 s b n h = simp (length-take-le n (drop b s) (simp length-drop (omega arith)))
body_wasteful pushdata2 s b n h = simp (length-take-le n (drop b s) (simp length-drop (omega arith)))
body_wasteful pushdata4 s b n h = simp (length-take-le n (drop b s) (simp length-drop (omega arith)))

module _ (s : List ℕ) (at : ℕ) (form : PushForm) (k : sort_of (get_or s at 0) ≡ sort.push form) where
  abbrev start : ℕ
  start = at + 1 + length_bytes form

  abbrev says : ℕ
  says = stated (length_bytes form) s at

  -- difference (g), where the length bytes are cut and where the body is
  cut_length : length s < start → cut_not_minimal s at ≡ false
  unfolding cut_not_minimal says_less
  cut_length h = rw k (go form h)
    where
      go : (f : PushForm) → length s < at + 1 + length_bytes f → cut_form (sort.push f) s at ≡ false
      go direct h = refl
      go pushdata1 h = rw (lt-leb (at + 1 + 1) (length s) h)
      go pushdata2 h = rw (lt-leb (at + 1 + 2) (length s) h)
      go pushdata4 h = rw (lt-leb (at + 1 + 4) (length s) h)

  cut_body : start ≤ length s → length s - start < says → cut_not_minimal s at ≡ short_form form s start says
  unfolding cut_not_minimal says_less stated is_number
  cut_body h c = rw k (go form h c)
    where
      go : (f : PushForm) → at + 1 + length_bytes f ≤ length s → length s - (at + 1 + length_bytes f) < stated (length_bytes f) s at
          → cut_form (sort.push f) s at ≡ short_form f s (at + 1 + length_bytes f) (stated (length_bytes f) s at)
      go direct h c =
          ⊎_elim
          (λ (o : get_or s at 0 ≡ 1). simp (eq-eqb (get_or s at 0) 1 o, le-ltb (at + 1 + 0) (length s) (omega arith)))
          (λ (m : get_or s at 0 ≡ 1 → ⊥). simp (ne_eqb (get_or s at 0) 1 m))
          (one_or_not (get_or s at 0))
      go pushdata1 h c = rw (le-leb (at + 1 + 1) (length s) h)
      go pushdata2 h c = rw (le-leb (at + 1 + 2) (length s) h)
      go pushdata4 h c = rw (le-leb (at + 1 + 4) (length s) h)

  stated_direct : (f : PushForm) → f ≡ direct → get_or s at 0 ≡ stated (length_bytes f) s at
  unfolding stated
  stated_direct direct e = refl
  stated_direct pushdata1 e = cc
  stated_direct pushdata2 e = cc
  stated_direct pushdata4 e = cc

  -- no form states more than it can
  pub stated_most : Bytes s → (f : PushForm) → IsOf f (get_or s at 0) → stated (length_bytes f) s at ≤ most_stated f
  unfolding stated
  stated_most b direct o = omega arith
  stated_most b pushdata1 o = omega (arith, le_below s b 1 (at + 1))
  stated_most b pushdata2 o = omega (arith, le_below s b 2 (at + 1))
  stated_most b pushdata4 o = omega (arith, le_below s b 4 (at + 1))

  -- what a call says of it
  module _ (minimal : Bool) (l : length s ≤ limit) (h : at < length s) where
    form_read : get_script_op s at ≡ read_body s at h form
    form_read = push_read s at h form (push_code (get_or s at 0) form k)

    form_lacks : lacks s at ≡ body_lacks s at h form
    form_lacks = push_lacks s at h form (push_code (get_or s at 0) form k)

    pub length_cut : length s < start → walk_says minimal s at ≡ refuses 14 (at ∷ (start - length s) ∷ [])
    length_cut c =
        let short = lt-ltb (length s) start c in
        inside minimal s at l h ∙ rw (form_read, short, cut_length c, and-false, form_lacks, short)

    module _ (there : start ≤ length s) where
      read : get_script_op s at ≡ assign (get_or s at 0) says s start
      read = rw (form_read, le-ltb (length s) start there)

      pub body_cut : length s - start < says
          → walk_says minimal s at ≡ (if minimal && cut_not_minimal s at then refuses 2 (at ∷ []) else refuses 15 (at ∷ (says - (length s - start)) ∷ []))
      unfolding assign
      body_cut c = inside minimal s at l h ∙ rw (read, lt-ltb (length s - start) says c, form_lacks, le-ltb (length s) start there)

      pub whole_push : says ≤ length s - start
          → walk_says minimal s at
          ≡ (if minimal && not_minimal (get_or s at 0) (take says (drop start s)) then refuses 2 (at ∷ [])
          else answers (found (push at form start says)))
      unfolding assign
      whole_push w =
          let n : length (take says (drop start s)) ≡ says = length-take-le says (drop start s) (simp length-drop w) in
          let is : walked (sort_of (get_or s at 0)) at (get_or s at 0) (length (take says (drop start s))) ≡ push at form start says = rw (k, n) in
          inside minimal s at l h
          ∙ rw (read, le-ltb (length s - start) says w)
          (ap (λ (i : Item). if minimal && not_minimal (get_or s at 0) (take says (drop start s)) then refuses 2 (at ∷ []) else answers (found i)) is)

      -- the verdict on a push whose length bytes are there
      pub verdict : Bytes s → walk_says minimal s at
          ≡ (if minimal && short_form form s start says then refuses 2 (at ∷ [])
          else if ltb (length s - start) says then refuses 15 (at ∷ (says - (length s - start)) ∷ [])
          else answers (found (push at form start says)))
      verdict bytes =
          ⊎_elim
          (λ (c : length s - start < says). body_cut c ∙ rw (lt-ltb (length s - start) says c, cut_body there c))
          (λ (w : says ≤ length s - start).
          let n : length (take says (drop start s)) ≡ says = length-take-le says (drop start s) (simp length-drop w) in
          let same = minimal_same form (get_or s at 0) (take says (drop start s)) (push_code (get_or s at 0) form k) (λ e. stated_direct form e ∙ sym n)
          (rw n (stated_most bytes form (push_code (get_or s at 0) form k))) in
          whole_push w ∙ rw (le-ltb (length s - start) says w, same, ← body_wasteful form s start says (omega arith)))
          (lt_or_le (length s - start) says)

-- ---- the answers of the code

-- an answer and a cursor are right once the answer is
pub settles : (minimal : Bool) (s : List ℕ) (at : ℕ) (a : Said Walked) (q : ℕ) → walk_says minimal s at ≡ a → q ≡ moved a s at
    → (a ≡ walk_says minimal s at) × (q ≡ next_at minimal s at)
unfolding next_at
settles minimal s at a q e m = (sym e, m ∙ ap (λ (x : Said Walked). moved x s at) (sym e))

pub few : (form : PushForm) → length_bytes form ≤ 4
few direct = omega arith
few pushdata1 = omega arith
few pushdata2 = omega arith
few pushdata4 = omega arith

pub opcode_says : (minimal : Bool) (s : List ℕ) (at : ℕ) → length s ≤ limit → at < length s → 78 < get_or s at 0 → walk_says minimal s at ≡ answers (found (opcode at (get_or s at 0)))
unfolding not_minimal
opcode_says minimal s at l h o =
    inside minimal s at l h ∙ rw (opcode_read s at h o, lt-leb (get_or s at 0) 78 o, and-false, opcode_walked (get_or s at 0) at 0 o)
  where
    opcode_walked : (b place n : ℕ) → 78 < b → walked (sort_of b) place b n ≡ opcode place b
    opcode_walked b place n o =
        by_sort b (λ k. walked k place b n ≡ opcode place b) (λ e. absurd (omega arith)) (λ e. absurd (omega arith)) (λ e. absurd (omega arith))
        (λ e. absurd (omega arith)) (λ e. refl) (λ e. refl)

-- a push whose length bytes are k, and state n
module _ (minimal : Bool) (s : List ℕ) (at : ℕ) (form : PushForm) (sort-of : sort_of (get_or s at 0) ≡ sort.push form) (bytes : Bytes s) (l : length s ≤ limit)
    (h : at < length s) (k n : ℕ) (k-is : k ≡ length_bytes form) where
  abbrev Right : Said Walked → ℕ → Type 0
  Right a q = (a ≡ walk_says minimal s at) × (q ≡ next_at minimal s at)

  pub says_length_cut : length s < at + 1 + k → Right (refuses 14 (at ∷ (at + 1 + k - length s) ∷ [])) (length s)
  says_length_cut c = settles minimal s at _ _ (rw k-is (length_cut s at form sort-of minimal l h (rw k-is at c))) refl

  module _ (n-is : n ≡ stated k s at) (there : at + 1 + k ≤ length s) where
    body_says : walk_says minimal s at
        ≡ (if too_short minimal form s (at + 1 + k) n then refuses 2 (at ∷ [])
        else if ltb (length s - (at + 1 + k)) n then refuses 15 (at ∷ (n - (length s - (at + 1 + k))) ∷ [])
        else answers (found (push at form (at + 1 + k) n)))
    unfolding too_short
    body_says = rw (n-is, k-is) (verdict s at form sort-of minimal l h (rw k-is at there) bytes)

    pub says_short : too_short minimal form s (at + 1 + k) n ≡ true → Right (refuses 2 (at ∷ [])) (length s)
    says_short e = settles minimal s at _ _ (body_says ∙ rw e) refl

    pub says_body_cut : too_short minimal form s (at + 1 + k) n ≡ false → length s - (at + 1 + k) < n
        → Right (refuses 15 (at ∷ (n - (length s - (at + 1 + k))) ∷ [])) (length s)
    says_body_cut e c = settles minimal s at _ _ (body_says ∙ rw (e, lt-ltb _ _ c)) refl

    pub says_push : too_short minimal form s (at + 1 + k) n ≡ false → n ≤ length s - (at + 1 + k) → Right (answers (found (push at form (at + 1 + k) n))) (at + 1 + k + n)
    says_push e w = settles minimal s at _ _ (body_says ∙ rw (e, le-ltb _ _ w)) (omega arith)
