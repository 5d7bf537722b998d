-- `step::next` meets its contract: an instruction that has a size stands whole; for all else the walk's own step answers. Assumes nothing.
use mathlib.Core.Path.{◌≡◌, ap, ◌∙◌}
use mathlib.Core.Bool.{Bool}
use mathlib.Core.List.{List, ◌∷◌}
use Prim.Native.Nat.{ℕ, ◌+◌, ◌-◌, ◌≤◌, ◌<◌}
use native.Mathlib.Omega.{arith}
use lib.ListN.{length, get_or}
use lib.Seq.{sets}
use Rattle.refusal.specs.Refusal.{limit}
use Rattle.opcodes.specs.Opcode.{sort_of, length_bytes_after}
use Rattle.script.specs.Walk.{found, walked, walk_says, next_at, size_said}
use Rattle.script.proofs.Sized.{within_limit_lem, inside_script, stands_is, stands_head, stands_fits, stands_next}
use Rattle.hand.specs.Handed.{handed, steps, walked_row, minimal_of}
use Rattle.hand.proofs.Handing.{steps_row}
use Rattle.step.proofs.next.Goals as goal
use Rattle.step.proofs.next.Goals.{Else-size-eq0}

-- where there is a size
module _ (c : Else-size-eq0) where
  abbrev script : List ℕ
  script = c.args.script.now

  abbrev at : ℕ
  at = c.args.at

  abbrev minimal : Bool
  minimal = minimal_of c.args.mode

  bytes : (i : ℕ) → get_or script i 0 < 256
  bytes i = omega (arith, c.type_inv.script i)

  sized : c.whole_size-size.result ≡ size_said (walk_says minimal script at)
  sized = c.whole_size-size.ensures ∙ ap (λ b. size_said (walk_says b script at)) c.mode_of-mode.ensures

  some : 0 < c.whole_size-size.result
  some = omega (arith, c.if-size-eq0.false)

  inside : at < length script
  inside = inside_script minimal script at bytes c.whole_size-size.result sized some

  head : 1 + length_bytes_after (sort_of (get_or script at 0)) ≤ c.whole_size-size.result
  head = stands_head minimal script at bytes c.whole_size-size.result sized some

  ends : at + c.whole_size-size.result ≤ limit
  ends =
      omega (arith, within_limit_lem minimal script at bytes c.whole_size-size.result sized some, stands_fits minimal script at bytes c.whole_size-size.result sized some)

  abbrev stood : List ℕ
  stood = walked_row (found (walked (sort_of (get_or script at 0)) at (get_or script at 0) (c.whole_size-size.result - (1 + length_bytes_after (sort_of (get_or script at 0))))))

  row : (r : ℕ) (new old : List ℕ) → 6 ≤ length old → r ≡ 0
      → new ≡ sets old 0 ((at + c.whole_size-size.result) ∷ stood)
      → handed r new ≡ steps (next_at minimal script at) (walk_says minimal script at) old
  row r new old h e g =
      ap (λ r. handed r new) e
      ∙ steps_row (next_at minimal script at) (walk_says minimal script at) old _ h (stands_is minimal script at bytes c.whole_size-size.result sized some)
      (g ∙ ap (λ n. sets old 0 (n ∷ stood)) (stands_next minimal script at bytes c.whole_size-size.result sized some))

pub bounds-script-at : goal.bounds-script-at
bounds-script-at c =
    let s = (goal.at.bounds-script-at c).Else-size-eq0 in
    inside s

pub whole-requires : goal.whole-requires
whole-requires c =
    let s = (goal.at.whole-requires c).Else-size-eq0 in
    (c.if-values-lt-STEP_VALUES.false, head s, ends s)

pub returns : goal.returns
returns c =
    let s = (goal.at.returns c).Else-size-eq0 in
    row s _ _ _ c.if-values-lt-STEP_VALUES.false c.whole.ensures.0 c.whole.ensures.1
