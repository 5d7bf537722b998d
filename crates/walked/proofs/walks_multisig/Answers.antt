-- `walked::walks_multisig` meets its contract: a number opcode stands first, and the keys follow it. Assumes nothing.
use mathlib.Core.Path.{sym, ap, ◌∙◌}
use Rattle.std.specs.Prelude.{Ok}
use Rattle.walk.proofs.Turn.{finds, turn_at}
use Rattle.walked.specs.Walked.{opcode_then, number_then, keys_then, is_multisig}
use Rattle.walked.proofs.Numbered.{first}
use Rattle.walked.proofs.walks_multisig.Goals as goal
use Rattle.walked.proofs.walks_multisig.Goals.{After-new}
use Rattle.script.specs.Run.{Run, walk_from}
use Prim.Native.Nat.{ℕ}
use mathlib.Core.Bool.{false}
use mathlib.Core.Path.{◌≡◌}

-- the walk from the cursor is the walk from the front
module _ (d : After-new) where
  front : opcode_then first (walk_from false d.args.s.now d.new.result.at) ≡ is_multisig d.args.s.now
  unfolding is_multisig
  front = ap (λ (p : ℕ). opcode_then first (walk_from false d.args.s.now p)) d.new.ensures

  decided : {f : Run} → walk_from false d.args.s.now d.new.result.at ≡ f → opcode_then first f ≡ is_multisig d.args.s.now
  decided t = sym (ap (opcode_then first) t) ∙ front

-- the first instruction is an opcode
pub returns-in-Some : goal.returns-in-Some
returns-in-Some c =
    c.keys.ensures ∙ ap (number_then (λ m. keys_then m _)) (sym (c.in-Some.is) ∙ c.decode_pushnum.ensures)
    ∙ decided (goal.at.returns-in-Some c).After-new (turn_at _ _ _ c.next-stepped.ensures (finds c.in-Ok.is c.in-Some-Opcode.is (rw c.in-Some-Opcode.is at c.in-Some-Opcode.field-0-is)))

pub returns-in-None-decode_pushnum : goal.returns-in-None-decode_pushnum
returns-in-None-decode_pushnum c =
    ap (number_then (λ m. keys_then m _)) (sym (c.in-None-decode_pushnum.is) ∙ c.decode_pushnum.ensures)
    ∙ decided (goal.at.returns-in-None-decode_pushnum c).After-new (turn_at _ _ _ c.next-stepped.ensures (finds c.in-Ok.is c.in-Some-Opcode.is (rw c.in-Some-Opcode.is at c.in-Some-Opcode.field-0-is)))

-- it is none
pub returns-in-None : goal.returns-in-None
returns-in-None c = decided (goal.at.returns-in-None c).After-new (turn_at _ _ _ c.next-stepped.ensures (c.in-Ok.is ∙ ap Ok c.in-None.is))

pub returns-in-Some-Push : goal.returns-in-Some-Push
returns-in-Some-Push c =
    decided (goal.at.returns-in-Some-Push c).After-new (turn_at _ _ _ c.next-stepped.ensures (finds c.in-Ok.is c.in-Some-Push.is (rw c.in-Some-Push.is at c.in-Some-Push.field-0-is)))

pub returns-in_default : goal.returns-in_default
returns-in_default c = decided (goal.at.returns-in_default c).After-new (turn_at _ _ _ c.next-stepped.ensures c.in_default.is)
