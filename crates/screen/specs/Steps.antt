-- A part of the screen, for the code that makes it. No public contract cites it. Assumes nothing.
use Rattle.std.specs.Prelude.{List, ◌++◌, ℕ, length}
use Rattle.pool.specs.Text.{text, decimal}
use Rattle.templates.specs.Kind.{kind_of}
use Rattle.dust.specs.Dust.{dust_of}
use Rattle.screen.specs.Screen.{kind_name, line, both_counts}

-- the screen up to the text
unfoldable pub head_of : List ℕ → List ℕ
head_of s =
    line "length" (decimal (length s)) ++ line "kind" (text (kind_name (kind_of s))) ++ line "sigops" (both_counts s)
    ++ (line "dust" (decimal (dust_of s)) ++ text "asm ")
