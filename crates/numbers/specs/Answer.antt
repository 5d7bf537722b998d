-- What the entries say, from document 01, 'Numbers' and its refusals 1, 6 and 7. Assumes nothing.
use Rattle.std.specs.Prelude.{Bool, false, List, [], ℕ, suc, ◌^◌, eqb, ℤ, pos, negsuc, length}
use Rattle.std.specs.Prelude.{if◌then◌else◌}
use Rattle.laws.specs.Said.{Said, answers, refuses}
use Rattle.laws.specs.Buffer.{writes}
use Rattle.refusal.specs.Refusal.{within_limit}
use Rattle.numbers.specs.ScriptNum.{serialize, cast_to_bool}

-- -2^63, which refusal 6 names; `negsuc n` is -(n + 1)
abbrev pub is_least : ℤ → Bool
is_least (pos n) = false
is_least (negsuc n) = eqb (suc n) (2 ^ 63)

-- the bytes that the writer needs
unfoldable pub len_says : ℤ → Said ℕ
len_says n = if is_least n then refuses 6 [] else answers (length (serialize n))

-- the writer, with this much room: 6, and then 7
unfoldable pub write_says : ℤ → ℕ → Said ℕ
write_says n room = if is_least n then refuses 6 [] else writes (serialize n) room

-- read_scriptbool: any length up to the limit
unfoldable pub bool_says : List ℕ → Said Bool
bool_says vch = within_limit vch (answers (cast_to_bool vch))
