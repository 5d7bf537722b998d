-- What a walk computes step by step, length bytes before minimality before the body. No public contract cites these. Assumes nothing.
use Rattle.std.specs.Prelude.{Bool, true, false, ◌&&◌, List, ℕ, ◌+◌, ltb, eqb, length, get_or}
use Rattle.std.specs.Prelude.{if◌then◌else◌}
use Rattle.opcodes.specs.Opcode.{PushForm, direct, pushdata1, pushdata2, pushdata4}
use Rattle.script.specs.Script.{read_le}

-- the body length that a push states: its opcode where there are no length bytes
unfoldable pub stated : ℕ → List ℕ → ℕ → ℕ
stated k s at = if eqb k 0 then get_or s at 0 else read_le k s (at + 1)

-- a byte stands at p, and is 0x81 or 1 to 16
unfoldable pub is_number : List ℕ → ℕ → Bool
is_number s p =
    if ltb p (length s) then
    (if eqb (get_or s p 0) 0x81 then true
    else if ltb (get_or s p 0) 1 then false
    else ltb (get_or s p 0) 17)
    else false

-- document 01's words for minimal mode, before the body's length is tested
abbrev pub short_form : PushForm → List ℕ → ℕ → ℕ → Bool
short_form direct s body len = if eqb len 1 then is_number s body else false
short_form pushdata1 s body len = ltb len 76
short_form pushdata2 s body len = ltb len 0x100
short_form pushdata4 s body len = ltb len 0x10000

unfoldable pub too_short : Bool → PushForm → List ℕ → ℕ → ℕ → Bool
too_short minimal form s body len = minimal && short_form form s body len
