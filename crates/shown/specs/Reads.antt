-- What reading brings, of a reader that says which bytes are to come; of one that does not, as a file or standard input, no contract can say it.
-- Assumes nothing.
use Rattle.std.specs.Prelude.{◌≡◌, ℕ, ◌≤◌, List, Option, length, take, IfSome}
use Rattle.screen.specs.Screen.{screen_of}

-- so many bytes stand at the front of a buffer: all that were to come, or as many of them as the buffer holds
pub record Brings (to_come : Option (List ℕ)) (buf : List ℕ) (n : ℕ) : Type 0 where
  pub fits : n ≤ length buf
  pub bytes : IfSome to_come (λ xs. take n buf ≡ take (length buf) xs)

-- so many bytes stand at the front of a buffer: the screen of the script that was to come
pub record Shows (to_come : Option (List ℕ)) (buf : List ℕ) (n : ℕ) : Type 0 where
  pub fits : n ≤ length buf
  pub bytes : IfSome to_come (λ xs. take n buf ≡ screen_of xs)
