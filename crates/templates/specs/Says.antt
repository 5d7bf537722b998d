-- What the entries say of a script. Assumes nothing.
use Rattle.std.specs.Prelude.{List, ℕ, ◌-◌, length}
use Rattle.std.specs.Prelude.{Option, None, Some}
use Rattle.std.specs.Prelude.{if◌then◌else◌}
use Rattle.laws.specs.Said.{Said, answers, refuses}
use Rattle.laws.specs.Buffer.{writes}
use Rattle.refusal.specs.Refusal.{within_limit}
use Rattle.fixed.specs.Fixed.{is_pay_to_pubkey, is_pay_to_witness_pubkey_hash, script_code}
use Rattle.walked.specs.Walked.{Stretch, stretch}

-- refusal 1 for a script over the limit, else what f tells of it
unfoldable pub judges : {A : Type 0} → (List ℕ → A) → List ℕ → Said A
judges f s = within_limit s (answers (f s))

-- 'P2PK': the key is shown as bytes 1 to length minus 2
unfoldable pub pubkey_of : List ℕ → Option Stretch
pubkey_of s = if is_pay_to_pubkey s then Some (stretch 1 (length s - 2)) else None

-- 'a second call gives the part itself, empty for nothing and for refusal 1': where the part starts, and its length
abbrev pub start_of : Said (Option Stretch) → ℕ
start_of (answers None) = 0
start_of (answers (Some (stretch start len))) = start
start_of (refuses number values) = 0

abbrev pub len_of : Said (Option Stretch) → ℕ
len_of (answers None) = 0
len_of (answers (Some (stretch start len))) = len
len_of (refuses number values) = 0

-- a count that was written
abbrev pub as_some : Said ℕ → Said (Option ℕ)
as_some (answers n) = answers (Some n)
as_some (refuses number values) = refuses number values

-- 'p2wpkh_script_code': refusal 1; nothing for all but P2WPKH; refusal 7 last
unfoldable pub code_says : List ℕ → ℕ → Said (Option ℕ)
code_says s room =
    within_limit s (if is_pay_to_witness_pubkey_hash s then as_some (writes (script_code s) room) else answers None)
