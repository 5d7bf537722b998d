-- `shown::screen` meets its contract: with that room `inspect` answers. Assumes nothing.
use mathlib.Core.Path.{◌≡◌, ap, ◌∙◌}
use mathlib.Core.List.{◌++◌}
use native.Mathlib.Omega.{arith}
use lib.ListN.{length, drop, length-append}
use Rattle.laws.specs.Said.{answers}
use Rattle.screen.specs.Screen.{screen_of, inspect_says}
use Rattle.screen.proofs.Short.{has_room}
use Rattle.refusal.proofs.Same.{told}
use Rattle.shown.proofs.screen.Goals as goal
use Rattle.shown.proofs.screen.Goals.{After-inspect}

-- the screen is written
module _ (i : After-inspect) where
  said : inspect_says i.args.script.now (length i.args.out.now) ≡ answers (length (screen_of i.args.script.now))
  said = has_room i.args.script.now (λ j. omega (arith, i.type_inv.script j)) (length i.args.out.now) i.requires

  left : i.inspect.new.out ≡ screen_of i.args.script.now ++ drop (length (screen_of i.args.script.now)) i.args.out.now
  left = rw said at i.inspect.ensures.left

pub returns-clause-room : goal.returns-clause-room
returns-clause-room c =
    let i = (goal.at.returns-clause-room c).After-inspect in
    let e = c.unwrap_or.ensures ∙ told _ _ (c.inspect.ensures.answer ∙ said i) in
    let w = screen_of c.args.script.now in
    omega (arith, e, ap length (left i), length-append w (drop (length w) c.args.out.now))
