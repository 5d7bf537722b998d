-- `inspect::inspect` meets its contract: the tests on the script's length and on the room pick the case. Assumes nothing.
use mathlib.Core.Path.{◌≡◌, refl, ap, ◌∙◌}
use Prim.Native.Nat.{ℕ, ◌+◌, ◌≤◌}
use native.Mathlib.Omega.{arith}
use lib.ListN.{length}
use Rattle.asm.specs.Asm.{text_of}
use Rattle.screen.specs.Screen.{most_shown, screen_of, inspect_says}
use Rattle.screen.specs.Steps.{head_of}
use Rattle.screen.proofs.Whole.{within_length, written}
use Rattle.screen.proofs.Short.{screen_short}
use Rattle.inspect.proofs.Room.{room}
use Rattle.inspect.proofs.inspect.Goals as goal
use Rattle.inspect.proofs.inspect.Goals.{After-text_len}

-- head and text are measured
module _ (k : After-text_len) where
  small : length k.args.script.now ≤ most_shown
  small = k.in-Some.ensures.within.0 refl

  lines : k.as_bytes-head.result.now ≡ head_of k.args.script.now
  lines = k.as_bytes-head.ensures ∙ k.head_of-lines.ensures ∙ ap head_of k.in-Some.ensures.same

  text_length : k.text_len.result ≡ length (text_of k.args.script.now)
  text_length = k.text_len.ensures ∙ ap (λ s. length (text_of s)) k.in-Some.ensures.same

  is_length : length k.as_bytes-head.result.now + k.text_len.result + 1 ≡ length (screen_of k.args.script.now)
  is_length = omega (arith, within_length k.args.script.now small, ap length lines, text_length)

-- .. and short
short : (k : After-text_len) → length k.as_bytes-head.result.now + k.text_len.result + 1 ≤ 64538
short k = omega (arith, is_length k, screen_short k.args.script.now (λ i. omega (arith, k.type_inv.script i)))

pub overflow_add-needed : goal.overflow_add-needed
overflow_add-needed c = omega (arith, short (goal.at.overflow_add-needed c).After-text_len)

pub overflow_add-needed-2 : goal.overflow_add-needed-2
overflow_add-needed-2 c = omega (arith, short (goal.at.overflow_add-needed-2 c).After-text_len)

pub returns : goal.returns
unfolding inspect_says
returns c =
    let k = (goal.at.returns c).After-text_len in
    let s = c.args.script.now in
    let old = c.args.out.now in
    let needed : ℕ = length c.as_bytes-head.result.now + c.text_len.result + 1 in
    let m : needed ≡ length c.as_bytes-head.result.now + length (text_of s) + 1 = omega (arith, text_length k) in
    let w = written s (small k) _ old _ needed _ (lines k) m (rw c.in-Some.ensures.same at c.put_screen.ensures) in
    let p = room (screen_of s) old needed (is_length k) _ c.if-out-needed.false w in
    record { answer = p.0; left = p.1 }
