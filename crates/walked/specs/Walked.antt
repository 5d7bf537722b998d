-- Templates that are read off the plain walk. Assumes nothing.
use Rattle.std.specs.Prelude.{Bool, true, false, ◌&&◌, List, [], ◌∷◌, ℕ, suc, leb, eqb}
use Rattle.std.specs.Prelude.{Option, None, Some}
use Rattle.std.specs.Prelude.{if◌then◌else◌}
use Rattle.laws.specs.Said.{Said, answers, refuses}
use Rattle.opcodes.specs.Core.{OP_16, OP_CHECKMULTISIG}
use Rattle.opcodes.specs.Opcode.{pushnum_of}
use Rattle.script.specs.Walk.{Item, Walked, opcode, push}
use Rattle.script.specs.Run.{Run, stop, item, walk_from, items, ending}

-- a walk that ends so met no refusal
abbrev pub unrefused : Said Walked → Bool
unrefused (answers w) = true
unrefused (refuses number values) = false

-- the test holds of every instruction
abbrev pub every : (Item → Bool) → List Item → Bool
every f [] = true
every f (i ∷ is) = f i && every f is

-- ---- push only

-- 'every opcode at most 0x60'; a push is none
abbrev pub at_most_op16 : Item → Bool
at_most_op16 (opcode place code) = leb code OP_16
at_most_op16 (push place form body len) = true

-- document 01's words, which `push_only_core` puts beside Core's loop: plain walk without refusal, every opcode at most 0x60
abbrev pub push_only_run : Run → Bool
push_only_run run = unrefused (ending run) && every at_most_op16 (items run)

-- .. of a script, walked from its front
unfoldable pub is_push_only : List ℕ → Bool
is_push_only s = push_only_run (walk_from false s 0)

-- ---- redeem script

-- bytes of a script, as place and length
pub data Stretch : Type 0 where
  stretch : (start len : ℕ) → Stretch

-- whether an instruction is a push
abbrev pub is_push : Item → Bool
is_push (opcode place code) = false
is_push (push place form body len) = true

-- where its body lies
abbrev pub body_of : Item → Option Stretch
body_of (opcode place code) = None
body_of (push place form body len) = Some (stretch body len)

-- the body of the last instruction; where there is none, what was there before
abbrev pub last_body : Option Stretch → List Item → Option Stretch
last_body before [] = before
last_body before (i ∷ is) = last_body (body_of i) is

-- BIP 16, in document 01's words: if the plain walk meets no refusal and gives pushes only and at least one, the last body
abbrev pub redeem_run : Option Stretch → Run → Option Stretch
redeem_run before run = if unrefused (ending run) && every is_push (items run) then last_body before (items run) else None

-- .. of a script, walked from its front; nothing for one without instructions
unfoldable pub redeem_script : List ℕ → Option Stretch
redeem_script s = redeem_run None (walk_from false s 0)

-- ---- multisig

-- the walk goes on with an opcode, and this holds of it and of the walk after it
abbrev pub opcode_then : (ℕ → Run → Bool) → Run → Bool
opcode_then f (stop a) = false
opcode_then f (item (opcode place code) rest) = f code rest
opcode_then f (item (push place form body len) rest) = false

-- how many pushes the walk goes on with
abbrev pub pushes : Run → ℕ
pushes (stop a) = 0
pushes (item (opcode place code) rest) = 0
pushes (item (push place form body len) rest) = suc (pushes rest)

-- the walk after them
abbrev pub after_pushes : Run → Run
after_pushes (stop a) = stop a
after_pushes (item (opcode place code) rest) = item (opcode place code) rest
after_pushes (item (push place form body len) rest) = after_pushes rest

-- the walk is over and met no refusal
abbrev pub is_end : Run → Bool
is_end (stop a) = unrefused a
is_end (item i rest) = false

-- it is a number, and this holds of it
abbrev pub number_then : (ℕ → Bool) → Option ℕ → Bool
number_then f None = false
number_then f (Some m) = f m

-- 'which if it is a number must equal the count of pushes'
abbrev pub agrees : Option ℕ → ℕ → Bool
agrees None count = true
agrees (Some n) count = eqb n count

-- 'OP_CHECKMULTISIG; end'
abbrev pub checks : Run → Bool
checks = opcode_then λ code rest. eqb code OP_CHECKMULTISIG && is_end rest

-- 'pushes, at most 255; one opcode, which if it is a number must equal the count of pushes; OP_CHECKMULTISIG; end; m at most the count'
unfoldable pub keys_then : ℕ → Run → Bool
keys_then m run =
    leb (pushes run) 255 && opcode_then (λ code rest. agrees (pushnum_of code) (pushes run) && checks rest) (after_pushes run) && leb m (pushes run)

-- 'Multisig: a number opcode m;' and what follows it
unfoldable pub is_multisig : List ℕ → Bool
is_multisig s = opcode_then (λ code rest. number_then (λ m. keys_then m rest) (pushnum_of code)) (walk_from false s 0)
