-- The calls one after the other: each hands out the bytes at its position and moves past them, so that what was handed out is the script's
-- own beginning. Assumes nothing.
use mathlib.Core.Path.{◌≡◌, refl, sym, ap, ap₂, ◌∙◌}
use mathlib.Core.Logic.{◌⊎◌, inl, inr, ⊎_elim}
use mathlib.Core.Bool.{Bool, true}
use mathlib.Core.List.{List, [], ◌∷◌, ◌++◌, append-nil, append_assoc}
use Prim.Native.Nat.{ℕ, zero, suc, ◌+◌, ◌≤◌, ◌<◌}
use native.Mathlib.Nat.{add-zero}
use native.Mathlib.Omega.{arith}
use lib.ListN.{length, take, drop}
use lib.Seq.{take-add}
use Rattle.laws.specs.Said.{answers, refuses}
use Rattle.laws.proofs.Test.{lt_or_le}
use Rattle.refusal.specs.Refusal.{limit}
use Rattle.script.specs.Walk.{end, walk_says, next_at}
use Rattle.script.specs.Instruction.{Instruction, Bytes, Stands, encode_all, sizes, allowed, Each}
use Rattle.script.specs.Calls.{position, call, given, handed, Taken, NoRefusal}
use Rattle.script.proofs.Step.{at_end}
use Rattle.script.proofs.Encoding.{size_is, bytes_laid, laid_bytes}
use Rattle.script.proofs.Exactly.{Says, says_end, hands, refused, says, refusal_is}

sizes_append : (xs ys : List Instruction) → sizes (xs ++ ys) ≡ sizes xs + sizes ys
unfolding sizes
sizes_append [] ys = omega arith
sizes_append (x ∷ xs) ys = omega (arith, sizes_append xs ys)

encode_append : (xs ys : List Instruction) → encode_all (xs ++ ys) ≡ encode_all xs ++ encode_all ys
unfolding encode_all
encode_append [] ys = refl
encode_append (x ∷ xs) ys = rw (encode_append xs ys, append_assoc)

each_append : (P : Instruction → Type 0) (xs ys : List Instruction) → Each P xs → Each P ys → Each P (xs ++ ys)
each_append P [] ys p q = q
each_append P (x ∷ xs) ys p q = (p.0, each_append P xs ys p.1 q)

module _ (minimal : Bool) (s : List ℕ) (l : length s ≤ limit) (bytes : Bytes s) where
  -- ---- one call

  end_next : (at : ℕ) → at ≡ length s → next_at minimal s at ≡ at
  unfolding next_at
  end_next at e = rw (at_end minimal s at l (sym e)) (omega arith)

  -- to the end, or on
  moves : (at : ℕ) → at ≤ length s → (next_at minimal s at ≡ length s) ⊎ ((at < next_at minimal s at) × (next_at minimal s at ≤ length s))
  moves at w = go (says minimal s l at bytes w)
    where
      go : Says minimal s l at → (next_at minimal s at ≡ length s) ⊎ ((at < next_at minimal s at) × (next_at minimal s at ≤ length s))
      go (says_end e) = inl (end_next at e ∙ e)
      go (hands i a g n) =
          let f = bytes_laid s at i a.bytes in
          inr (omega (arith, size_is i), omega (arith, f.fits))
      go (refused number values r) = inl (refusal_is minimal s l at bytes w number values r).1

  -- what a call hands out are the bytes that it moves past
  record Kept (at : ℕ) (xs : List Instruction) : Type 0 where
    next : at + sizes xs ≡ next_at minimal s at
    same : encode_all xs ≡ take (sizes xs) (drop at s)

  kept : (at : ℕ) → at ≤ length s → Taken (walk_says minimal s at) → Kept at (given s (walk_says minimal s at))
  unfolding sizes encode_all
  kept at w t = go (says minimal s l at bytes w)
    where
      go : Says minimal s l at → Kept at (given s (walk_says minimal s at))
      go (says_end e) = rw (at_end minimal s at l (sym e)) (record { next = omega (arith, end_next at e); same = refl })
      go (hands i a g n) =
          rw g
          (record {
            next = omega arith;
            same = rw (append-nil, add-zero) (sym (laid_bytes s at i (bytes_laid s at i a.bytes)));
          })
      go (refused number values r) = absurd (rw r at t)

  takes : (at : ℕ) → at ≤ length s → Each (λ i. Stands i × (allowed minimal i ≡ true)) (given s (walk_says minimal s at))
  takes at w = go (says minimal s l at bytes w)
    where
      go : Says minimal s l at → Each (λ i. Stands i × (allowed minimal i ≡ true)) (given s (walk_says minimal s at))
      go (says_end e) = rw (at_end minimal s at l (sym e)) tt
      go (hands i a g n) = rw g ((a.stands, a.taken), tt)
      go (refused number values r) = rw r tt

  -- ---- the calls

  -- No call leaves the script.
  pub position_within : (n : ℕ) → position minimal s n ≤ length s
  unfolding position
  position_within zero = omega arith
  position_within (suc n) = ⊎_elim (λ e. omega arith) (λ h. h.1) (moves (position minimal s n) (position_within n))

  -- Where no call was refused, the sizes of the instructions that were handed out add up to the position.
  pub sizes_add : (n : ℕ) → NoRefusal minimal s n → sizes (handed minimal s n) ≡ position minimal s n
  unfolding position handed sizes
  sizes_add zero r = refl
  sizes_add (suc n) r =
      let k = kept (position minimal s n) (position_within n) (r n (omega arith)) in
      omega (arith, sizes_append (handed minimal s n) (given s (call minimal s n)), sizes_add n (λ i h. r i (omega arith)), k.next)

  -- Their encodings, joined, are then the script's first bytes, as many as the position.
  pub bytes_kept : (n : ℕ) → NoRefusal minimal s n → encode_all (handed minimal s n) ≡ take (position minimal s n) s
  unfolding position handed encode_all
  bytes_kept zero r = refl
  bytes_kept (suc n) r =
      let p : ℕ = position minimal s n in
      let k = kept p (position_within n) (r n (omega arith)) in
      encode_append (handed minimal s n) (given s (call minimal s n))
      ∙ ap₂ ◌++◌ (bytes_kept n (λ i h. r i (omega arith))) k.same
      ∙ sym (take-add p (sizes (given s (call minimal s n))) s)
      ∙ ap (λ (q : ℕ). take q s) k.next

  -- Whatever is handed out is an instruction that the mode takes.
  pub handed_stand : (n : ℕ) → Each (λ i. Stands i × (allowed minimal i ≡ true)) (handed minimal s n)
  unfolding handed
  handed_stand zero = tt
  handed_stand (suc n) =
      each_append _ (handed minimal s n) (given s (call minimal s n)) (handed_stand n) (takes (position minimal s n) (position_within n))

  -- ---- the end

  pub stays : (n m : ℕ) → n ≤ m → position minimal s n ≡ length s → position minimal s m ≡ length s
  unfolding position
  stays n zero h e = let z : n ≡ 0 = omega arith in rw z at e
  stays n (suc m) h e =
      ⊎_elim
      (λ (g : n < suc m). let p = stays n m (omega arith) e in end_next (position minimal s m) p ∙ p)
      (λ (g : suc m ≤ n). let z : n ≡ suc m = omega arith in rw z at e)
      (lt_or_le n (suc m))

  far : (n : ℕ) → (position minimal s n ≡ length s) ⊎ (n ≤ position minimal s n)
  unfolding position
  far zero = inr (omega arith)
  far (suc n) =
      ⊎_elim
      (λ e. inl (end_next (position minimal s n) e ∙ e))
      (λ h. ⊎_elim inl (λ m. inr (omega arith)) (moves (position minimal s n) (position_within n)))
      (far n)

  -- As many calls as the script has bytes, and the next one says end: each before it moved on, or was refused and moved to the end.
  pub ends_in_time : call minimal s (length s) ≡ answers end
  ends_in_time =
      at_end minimal s (position minimal s (length s)) l
      (⊎_elim (λ e. sym e) (λ h. omega (arith, position_within (length s))) (far (length s)))

  -- After a refusal every later call says end.
  pub after_refusal : (n m number : ℕ) (values : List ℕ) → call minimal s n ≡ refuses number values → n < m → call minimal s m ≡ answers end
  unfolding position
  after_refusal n m number values e h =
      at_end minimal s (position minimal s m) l
      (sym (stays (suc n) m h (refusal_is minimal s l (position minimal s n) bytes (position_within n) number values e).1))
