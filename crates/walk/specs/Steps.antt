-- What the private steps of the code compute. No public contract cites these. Assumes nothing.
use Rattle.std.specs.Prelude.{◌≡◌, ℕ, ◌+◌, ◌≤◌}
use Rattle.laws.specs.Said.{Said}
use Rattle.script.specs.Walk.{Walked}
use Rattle.walk.specs.Part.{body_place, body_len}

-- where a body starts and ends, within a script of so many bytes
pub record Spans (a : Said Walked) (size start end : ℕ) : Type 0 where
  pub first : start ≡ body_place a
  pub last : end ≡ body_place a + body_len a
  pub fits : end ≤ size
