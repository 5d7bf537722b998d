-- `walk::Cursor::next` meets its contract: refusals 1 and 8, the end, then the instruction by the class of its opcode. Assumes nothing.
use mathlib.Core.Path.{◌≡◌, refl}
use mathlib.Core.Bool.{Bool}
use Prim.Native.Nat.{◌+◌, ◌<◌}
use native.Mathlib.Omega.{arith}
use lib.ListN.{get_or}
use Rattle.laws.specs.Said.{answers}
use Rattle.script.specs.Walk.{found, opcode, walk_says, next_at}
use Rattle.script.proofs.Step.{settles, too_long, bad_cursor, at_end, opcode_says}
use Rattle.walk.proofs.Turn.{no_push}
use Rattle.walk.proofs.Cursor.next.Goals as goal
use Rattle.walk.proofs.Cursor.next.Goals.{After-classify, Start}

-- where the opcode is no push
module _ (m : After-classify) where
  opcode-right : (minimal : Bool) → 78 < get_or m.args.script.now m.args.self.at 0
      → (answers (found (opcode m.args.self.at (get_or m.args.script.now m.args.self.at 0))) ≡ walk_says minimal m.args.script.now m.args.self.at)
      × (m.args.self.at + 1 ≡ next_at minimal m.args.script.now m.args.self.at)
  opcode-right minimal o =
      let s = m.args.script.now in
      let at = m.args.self.at in
      settles minimal s at _ _ (opcode_says minimal s at (omega arith) (omega arith) o) refl

pub returns-then-script-gt-MAX_SCRIPT : goal.returns-then-script-gt-MAX_SCRIPT
returns-then-script-gt-MAX_SCRIPT c = settles _ _ _ _ _ (too_long _ _ _ c.if-script-gt-MAX_SCRIPT.true) refl

pub returns-then-script-at : goal.returns-then-script-at
returns-then-script-at c = settles _ _ _ _ _ (bad_cursor _ _ _ c.if-script-gt-MAX_SCRIPT.false c.if-script-at.true) refl

pub returns-then-script-at-2 : goal.returns-then-script-at-2
returns-then-script-at-2 c = settles _ _ _ _ _ (at_end _ _ _ c.if-script-gt-MAX_SCRIPT.false c.if-script-at-2.true) (omega arith)

pub returns-in-PushNum : goal.returns-in-PushNum
returns-in-PushNum c =
    let s = (goal.at.returns-in-PushNum c).After-classify in
    rw (c.opcode_at.ensures.0, c.opcode_at.ensures.1) (opcode-right s _ (no_push _ c.classify.ensures c.in-PushNum.is))
