-- What each instruction of a walk decides for the templates that are read off it. Assumes nothing.
use mathlib.Core.Path.{◌≡◌, refl}
use mathlib.Core.Bool.{Bool, true, false, not, ◌&&◌, and-false}
use Rattle.std.specs.Prelude.{Option, None, Some, Ok, is_some}
use Rattle.walk.specs.Answer.{said_found}
use Rattle.walk.specs.declared.Instruction.{Instruction}
use Rattle.walk.specs.declared.Instruction.TheVariants.{Opcode, Push}
use Prim.Native.Nat.{ℕ, ◌≤◌, ◌<◌}
use borrow.Author.Tests.{le-leb, lt-leb}
use lib.Dec.{leb}
use Rattle.laws.specs.Said.{Said}
use Rattle.opcodes.specs.Opcode.{pushnum_of}
use Rattle.script.specs.Walk.{Walked, opcode}
use Rattle.script.specs.Run.{Run, stop, item, continue}
use Rattle.walked.specs.Walked.{is_end, push_only_run, Stretch, redeem_run, pushes, after_pushes, agrees, checks, keys_then}

-- a walk ends where it finds no instruction
pub ends_if_none : (o : Option Instruction) (rest : Run) (b : Bool) → is_some o ≡ not b → is_end (continue (said_found (Ok o)) rest) ≡ b
ends_if_none None rest true e = refl
ends_if_none None rest false e = cc
ends_if_none (Some (Opcode place code)) rest true e = cc
ends_if_none (Some (Opcode place code)) rest false e = refl
ends_if_none (Some (Push place form body len)) rest true e = cc
ends_if_none (Some (Push place form body len)) rest false e = refl

module _ {run rest : Run} {place code : ℕ} (e : run ≡ item (opcode place code) rest) where
  -- an opcode up to OP_16 leaves a script push only, any other does not
  pub op16_passes : code ≤ 0x60 → push_only_run run ≡ push_only_run rest
  op16_passes h = rw (e, le-leb code 0x60 h)

  pub above_op16 : 0x60 < code → push_only_run run ≡ false
  above_op16 h = rw (e, lt-leb code 0x60 h, and-false)

  -- with an opcode there is no redeem script
  pub opcode_redeems : (before : Option Stretch) → redeem_run before run ≡ None
  opcode_redeems before = rw (e, and-false)

module _ (m : ℕ) (run : Run) where
  -- after the keys the walk stops
  pub no_count : {a : Said Walked} → after_pushes run ≡ stop a → keys_then m run ≡ false
  unfolding keys_then
  no_count e = rw (e, and-false)

  pub too_many : 255 < pushes run → keys_then m run ≡ false
  unfolding keys_then
  too_many h = rw (lt-leb (pushes run) 255 h)

  -- after the keys comes an opcode
  pub counted : {k place code : ℕ} {rest : Run} → pushes run ≡ k → k ≤ 255 → after_pushes run ≡ item (opcode place code) rest
      → keys_then m run ≡ (agrees (pushnum_of code) k && checks rest && leb m k)
  unfolding keys_then
  counted {k} e h a = rw (a, e, le-leb k 255 h)
