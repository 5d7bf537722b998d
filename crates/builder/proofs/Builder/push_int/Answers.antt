-- `builder::Builder::push_int` meets its contract: by what `int_opcode` and `write_scriptint` gave. Assumes nothing.
use mathlib.Core.Path.{◌≡◌, sym, ap, ◌∙◌}
use mathlib.Core.List.{List, [], ◌∷◌}
use Rattle.std.specs.Prelude.{None}
use Prim.Native.Nat.{ℕ}
use native.Mathlib.Omega.{arith}
use lib.IntN.{ℤ}
use lib.Seq.{length-take-le}
use mir.Facts.{to_z-of_z}
use Rattle.refusal.specs.Answer.{said}
use Rattle.laws.specs.Buffer.{after}
use Rattle.numbers.specs.ScriptNum.{serialize}
use Rattle.numbers.specs.Answer.{write_says}
use Rattle.building.specs.Builder.{int_opcode, push_int}
use Rattle.builder.proofs.Called.{same_call}
use Rattle.builder.proofs.Ints.{opcode_call, number_call, least_call, count_is, bytes_are, refused_is}
use Rattle.builder.proofs.Builder.push_int.Goals as goal
use Rattle.builder.proofs.Builder.push_int.Goals.{After-int_opcode, After-write_scriptint}

-- the opcode that the code was given
opcode-is : (k : After-int_opcode) → k.int_opcode.result ≡ int_opcode k.args.n
opcode-is k = k.int_opcode.ensures ∙ ap int_opcode (to_z-of_z k.ranges.n)

-- the number has no opcode
module _ (w : After-write_scriptint) where
  no-opcode : None ≡ int_opcode w.args.n
  no-opcode = sym (w.in_default.is) ∙ w.int_opcode.ensures ∙ ap int_opcode (to_z-of_z w.ranges.n)

  wrote : said w.write_scriptint.result ≡ write_says w.args.n 8
  wrote = w.write_scriptint.ensures.answer ∙ ap (λ (n : ℤ). write_says n 8) (to_z-of_z w.ranges.n)

-- the bytes before they are written
abbrev zeros : List ℕ
zeros = 0 ∷ 0 ∷ 0 ∷ 0 ∷ 0 ∷ 0 ∷ 0 ∷ 0 ∷ []

pub returns-in-Some : goal.returns-in-Some
returns-in-Some c =
    let s = (goal.at.returns-in-Some c).After-int_opcode in
    let a = c.args in
    c.push_opcode.ensures
    ∙ same_call a.self.length a.self.remembered a.buffer.now _ (push_int a.n)
    (opcode_call a.n _ (sym (c.in-Some.is) ∙ opcode-is s))

pub slice_bounds-bytes-end : goal.slice_bounds-bytes-end
slice_bounds-bytes-end c =
    let s = (goal.at.slice_bounds-bytes-end c).After-write_scriptint in
    omega (arith, count_is c.args.n c.ranges.n (wrote s) c.in-Ok.is, c.write_scriptint.auto)

pub slice_bounds-push_slice-end : goal.slice_bounds-push_slice-end
slice_bounds-push_slice-end c =
    let s = (goal.at.slice_bounds-push_slice-end c).After-write_scriptint in
    sym (length-take-le _ _ (omega (arith, count_is c.args.n c.ranges.n (wrote s) c.in-Ok.is, c.write_scriptint.auto)))

pub returns-in-Ok : goal.returns-in-Ok
returns-in-Ok c =
    let s = (goal.at.returns-in-Ok c).After-write_scriptint in
    let a = c.args in
    let f = c.ranges.n in
    c.push_slice.ensures
    ∙ same_call a.self.length a.self.remembered a.buffer.now _ (push_int a.n)
    (number_call a.n _ (no-opcode s) (count_is a.n f (wrote s) c.in-Ok.is).0
    (bytes_are a.n f (wrote s) zeros c.in-Ok.is (c.write_scriptint.ensures.left ∙ ap (λ (n : ℤ). after (write_says n 8) (serialize n) zeros) (to_z-of_z f))))

pub returns-in-Err : goal.returns-in-Err
returns-in-Err c =
    let s = (goal.at.returns-in-Err c).After-write_scriptint in
    let a = c.args in
    let f = c.ranges.n in
    let i = refused_is a.n f (wrote s) c.in-Err.is in
    c.refuse.ensures
    ∙ same_call a.self.length a.self.remembered a.buffer.now _ (push_int a.n) (least_call a.n _ c.in-Err.why (no-opcode s) i.0 i.1)
