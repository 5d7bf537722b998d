-- What a call makes of an integer: its opcode, its bytes, or refusal 6. Assumes nothing.
use mathlib.Core.Path.{◌≡◌, refl, sym, ap, ap₂, ◌∙◌}
use mathlib.Core.Bool.{Bool, true, false}
use mathlib.Core.List.{List, [], ◌++◌}
use Rattle.std.specs.Prelude.{None, Some}
use Prim.Native.Nat.{ℕ, ◌≤◌}
use native.Mathlib.Omega.{arith}
use borrow.Author.Tests.{le-leb}
use lib.IntN.{ℤ}
use lib.ListN.{length, take, drop}
use lib.Seq.{take_at}
use mir.Syntax.{w64}
use mir.Val.{SFits}
use Rattle.std.specs.Prelude.{if◌then◌else◌}
use Rattle.laws.specs.Said.{answers, refuses}
use Rattle.laws.specs.Buffer.{writes, after}
use Rattle.refusal.specs.Refusal.{number_of, values_of, said_refusal}
use Rattle.refusal.specs.Answer.{said}
use Rattle.refusal.specs.declared.Refusal.{Refusal}
use Rattle.numbers.specs.ScriptNum.{serialize}
use Rattle.numbers.specs.Answer.{is_least, len_says, write_says}
use Rattle.numbers.proofs.Written.{serialize_fits}
use Rattle.numbers.proofs.Outcome.{counted, least}
use Rattle.building.specs.Builder.{State, push_opcode, push_slice, int_opcode, push_int}
use Rattle.std.specs.Prelude.{Result, Ok, Err}

module _ (n : ℤ) (st : State) where
  pub opcode_call : {code : ℕ} → Some code ≡ int_opcode n → push_opcode code st ≡ push_int n st
  unfolding push_int
  opcode_call e = rw (← e)

  pub number_call : {v : List ℕ} → None ≡ int_opcode n → is_least n ≡ false → v ≡ serialize n → push_slice v st ≡ push_int n st
  unfolding push_int
  number_call e l b = ap (λ (x : List ℕ). push_slice x st) b ∙ rw (← e, l)

  pub least_call : (why : Refusal) → None ≡ int_opcode n → is_least n ≡ true → said_refusal {A = State} why ≡ refuses 6 [] → said_refusal why ≡ push_int n st
  unfolding push_int
  least_call why e l s = s ∙ rw (← e, l)

-- what `write_scriptint` said, with eight bytes of room
module _ (n : ℤ) (f : SFits w64 n) where
  enough : write_says n 8 ≡ len_says n
  unfolding write_says len_says
  enough = go (is_least n) refl
    where
      go : (b : Bool) → is_least n ≡ b → (if b then refuses 6 [] else writes (serialize n) 8) ≡ (if b then refuses 6 [] else answers (length (serialize n)))
      go true e = refl
      go false e = rw (le-leb (length (serialize n)) 8 (serialize_fits n f e))

  module _ {r : Result ℕ Refusal} (e : said r ≡ write_says n 8) where
    pub count_is : {k : ℕ} → r ≡ Ok k → (is_least n ≡ false) × (k ≡ length (serialize n)) × (k ≤ 8)
    count_is {k} d =
        let c = counted n (e ∙ enough) d in
        (c.0, c.1, omega (arith, c.1, serialize_fits n f c.0))

    pub bytes_are : {k : ℕ} (old : List ℕ) {new : List ℕ} → r ≡ Ok k → new ≡ after (write_says n 8) (serialize n) old → take k new ≡ serialize n
    bytes_are {k} old {new} d w =
        let a : write_says n 8 ≡ answers k = sym e ∙ ap said d in
        let b : new ≡ serialize n ++ drop (length (serialize n)) old = w ∙ rw a in
        ap (take k) b ∙ take_at (serialize n) _ k (sym (count_is d).1)

    pub refused_is : {why : Refusal} → r ≡ Err why → (is_least n ≡ true) × (said_refusal {A = State} why ≡ refuses 6 [])
    unfolding len_says
    refused_is {why} d =
        let l = least n (e ∙ enough) d in
        let s : said_refusal {A = ℕ} why ≡ refuses 6 [] = sym (ap said d) ∙ e ∙ enough ∙ rw l in
        let x : number_of why ≡ 6 = cc in
        let y : values_of why ≡ [] = cc in
        (l, ap₂ refuses x y)
