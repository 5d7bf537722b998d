-- The inspector's screen, from document 01, 'The inspector reads one raw script ..', made of the other crates' definitions. Assumes nothing.
use Rattle.std.specs.Prelude.{true, false, List, [], ◌∷◌, ◌++◌, ℕ, ltb, length}
use Prim.Native.String.{String}
use Rattle.std.specs.Prelude.{if◌then◌else◌}
use Rattle.laws.specs.Said.{Said}
use Rattle.laws.specs.Buffer.{writes}
use Rattle.pool.specs.Text.{text, decimal}
use Rattle.templates.specs.Kind.{Kind, p2pkh, p2sh, p2wpkh, p2wsh, p2tr, p2a, witness, p2pk, multisig, opreturn, other, kind_of}
use Rattle.counts.specs.Count.{get_sig_op_count}
use Rattle.dust.specs.Dust.{dust_of}
use Rattle.asm.specs.Asm.{text_of}

-- 'at most 2,800 bytes'
abbrev pub most_shown : ℕ
most_shown = 2800

-- 'Kind, first that fits: p2pkh, p2sh, ..'
abbrev pub kind_name : Kind → String
kind_name p2pkh = "p2pkh"
kind_name p2sh = "p2sh"
kind_name p2wpkh = "p2wpkh"
kind_name p2wsh = "p2wsh"
kind_name p2tr = "p2tr"
kind_name p2a = "p2a"
kind_name witness = "witness"
kind_name p2pk = "p2pk"
kind_name multisig = "multisig"
kind_name opreturn = "opreturn"
kind_name other = "other"

-- 'Every line, the last included, ends in a newline'
abbrev pub line : String → List ℕ → List ℕ
line word value = text word ++ (text " " ++ (value ++ (10 ∷ [])))

-- 'The accurate count comes first'
abbrev pub both_counts : List ℕ → List ℕ
both_counts s = decimal (get_sig_op_count true s) ++ (text " " ++ decimal (get_sig_op_count false s))

-- the five lines; the dust is that of the default rate
unfoldable pub lines_of : List ℕ → List ℕ
lines_of s =
    line "length" (decimal (length s))
    ++ (line "kind" (text (kind_name (kind_of s)))
    ++ (line "sigops" (both_counts s)
    ++ (line "dust" (decimal (dust_of s))
    ++ line "asm" (text_of s))))

-- 'more prints the one line `refused 2800`'
unfoldable pub screen_of : List ℕ → List ℕ
screen_of s = if ltb most_shown (length s) then line "refused" (decimal most_shown) else lines_of s

-- the screen written to a buffer of so many bytes
unfoldable pub inspect_says : List ℕ → ℕ → Said ℕ
inspect_says s room = writes (screen_of s) room
