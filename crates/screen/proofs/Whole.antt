-- The screen is the one line, or the head, the text and a line end. Assumes nothing.
use mathlib.Core.Path.{◌≡◌, sym}
use mathlib.Core.Bool.{true}
use mathlib.Core.List.{List, [], ◌∷◌, ◌++◌, append_assoc}
use Prim.Native.Nat.{ℕ, ◌+◌, ◌≤◌}
use native.Mathlib.Omega.{arith}
use borrow.Author.Tests.{le-ltb}
use lib.Dec.{ltb}
use lib.ListN.{length, drop, length-append}
use Rattle.pool.specs.Text.{text, decimal}
use Rattle.templates.specs.Kind.{kind_of}
use Rattle.dust.specs.Dust.{dust_of}
use Rattle.asm.specs.Asm.{text_of}
use Rattle.screen.specs.Screen.{most_shown, kind_name, line, both_counts, lines_of, screen_of}
use Rattle.screen.specs.Steps.{head_of}

regroup : (a b c d e t : List ℕ) → a ++ b ++ c ++ (d ++ e) ++ t ≡ a ++ (b ++ (c ++ (d ++ (e ++ t))))
regroup a b c d e t = simp append_assoc

pub over : (s : List ℕ) → ltb most_shown (length s) ≡ true → screen_of s ≡ line "refused" (decimal most_shown)
unfolding screen_of
over s h = rw h

module _ (s : List ℕ) (h : length s ≤ most_shown) where
  pub within : screen_of s ≡ head_of s ++ (text_of s ++ (10 ∷ []))
  unfolding screen_of lines_of head_of
  within =
      rw (le-ltb most_shown (length s) h)
      (sym
      (regroup (line "length" (decimal (length s))) (line "kind" (text (kind_name (kind_of s)))) (line "sigops" (both_counts s))
      (line "dust" (decimal (dust_of s))) (text "asm ") (text_of s ++ (10 ∷ []))))

  pub within_length : length (screen_of s) ≡ length (head_of s) + length (text_of s) + 1
  within_length = rw within (omega (arith, length-append (head_of s) (text_of s ++ (10 ∷ [])), length-append (text_of s) (10 ∷ [])))

  pub written : (p old new : List ℕ) (n m : ℕ) → p ≡ head_of s → n ≡ m → new ≡ p ++ (text_of s ++ (10 ∷ drop m old)) → new ≡ screen_of s ++ drop n old
  written p old new n m e f g = rw (within, f, ← e, append_assoc, append_assoc) g
