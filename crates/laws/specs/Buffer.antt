-- What a call that writes says, and what it leaves in the buffer that it was lent. Assumes nothing.
use Rattle.std.specs.Prelude.{List, [], ◌∷◌, ◌++◌, ℕ, leb, length, drop}
use Rattle.std.specs.Prelude.{if◌then◌else◌}
use Rattle.laws.specs.Said.{Said, answers, refuses}

-- refusal 7 comes last and names what is needed; else all is written, and the answer is its count
abbrev pub writes : List ℕ → ℕ → Said ℕ
writes new room = if leb (length new) room then answers (length new) else refuses 7 (length new ∷ [])

-- the buffer after the call: what was written and then what stood there before; at a refusal as it was
abbrev pub after : {A : Type 0} → Said A → List ℕ → List ℕ → List ℕ
after (answers a) new old = new ++ drop (length new) old
after (refuses number values) new old = old
