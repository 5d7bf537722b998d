-- `numbers::read::scriptint_parse` meets its contract. The loop's invariant: v is the bytes that are left to read and those behind them, and m is
-- the magnitude of the latter. Assumes nothing.
use mathlib.Core.Path.{◌≡◌, sym, ap, ◌∙◌}
use mathlib.Core.List.{◌++◌}
use Prim.Native.Nat.{ℕ, ◌+◌, ◌-◌, ◌*◌, ◌<◌}
use native.Mathlib.Omega.{arith}
use lib.ListN.{length, take, drop, length-drop}
use Rattle.std.proofs.lemmas.List.{take-append-drop, length-take-le, length_push}
use mir.Syntax.{w64}
use mir.Facts.{to_z-of_z}
use borrow.Author.Rules.{sfits_of}
use Rattle.numbers.proofs.Reading.{magnitude_of, set_vch_is, set_vch_none, magnitude_last, magnitude_fits, magnitude_step, taken_back}
use Rattle.numbers.proofs.read.scriptint_parse.Goals as goal
use Rattle.numbers.proofs.read.scriptint_parse.Goals.{After-from}

-- a turn of the loop
turn : (c : After-from) →
    let v = c.args.v.now in
    let left = c.next.new.self.iter.rest.now in
    (c.loop-b.m * 256 + c.from.result ≡ magnitude_of (drop (length left) v)) × (length left < length v) × (left ++ drop (length left) v ≡ v)
turn c =
    let v = c.args.v.now in
    let i = c.loop-b.invariant in
    let t = taken_back v _ _ c.in-Some.b.now i.2 c.in-Some.ensures.steps in
    let l : length c.loop-b.b-iterator.iter.rest.now ≡ length c.next.new.self.iter.rest.now + 1 = ap length c.in-Some.ensures.steps ∙ length_push _ _ in
    let p : 0 < length (drop (length c.loop-b.b-iterator.iter.rest.now) v) = simp length-drop (omega arith) in
    (rw (t.1, c.from.ensures, i.0) (magnitude_step c.in-Some.b.now (drop (length c.loop-b.b-iterator.iter.rest.now) v) p), omega arith, t.0)

pub returns-in_default : goal.returns-in_default
returns-in_default c = sym (set_vch_none c.args.v.now (omega arith))

pub loop-b-init : goal.loop-b-init
loop-b-init c =
    let v = c.args.v.now in
    let l = length-take-le (length v - 1) v (omega arith) in
    let e : c.into_iter-b-iterator.result.iter.rest.now ≡ take (length v - 1) v = cc in
    rw (e, l) (c.from-m.ensures ∙ sym (magnitude_last v (omega arith)), omega arith, take-append-drop (length v - 1) v)

pub overflow_mul-m : goal.overflow_mul-m
overflow_mul-m c =
    let left = c.loop-b.b-iterator.iter.rest.now in
    let l : length left ≡ length c.next.new.self.iter.rest.now + 1 = ap length c.in-Some.ensures.steps ∙ length_push _ _ in
    omega (arith, magnitude_fits 6 (length left) c.args.v.now (λ i. (c.type_inv.v i).fits) (omega arith))

pub overflow_add-m : goal.overflow_add-m
overflow_add-m c =
    let t = turn (goal.at.overflow_add-m c).After-from in
    omega (arith, magnitude_fits 7 (length c.next.new.self.iter.rest.now) c.args.v.now (λ i. (c.type_inv.v i).fits) (omega arith))

pub loop-b-preserved : goal.loop-b-preserved
loop-b-preserved c = turn (goal.at.loop-b-preserved c).After-from

pub with_sign-requires : goal.with_sign-requires
with_sign-requires c = omega (arith, magnitude_fits 7 (length c.loop-b.b-iterator.iter.rest.now) c.args.v.now (λ i. (c.type_inv.v i).fits) (omega arith))

pub returns : goal.returns
returns c =
    let v = c.args.v.now in
    let z : length c.loop-b.b-iterator.iter.rest.now ≡ 0 = c.in-None.ensures.steps.0 in
    let e : c.loop-b.m ≡ magnitude_of v = c.loop-b.invariant.0 ∙ ap (λ (i : ℕ). magnitude_of (drop i v)) z in
    to_z-of_z {w = w64} (sfits_of c.with_sign.type_inv) ∙ c.with_sign.ensures ∙ rw e (sym (set_vch_is v (λ i. (c.type_inv.v i).fits)))
