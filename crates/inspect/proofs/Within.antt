-- Within the limit nothing that the screen shows is refused. Assumes nothing.
use mathlib.Core.Path.{◌≡◌}
use mathlib.Core.Bool.{Bool, true, false}
use mathlib.Core.List.{List}
use mathlib.Core.Logic.{⊎_elim}
use Prim.Native.Nat.{ℕ, ◌≤◌, ◌<◌}
use borrow.Author.Tests.{lt-ltb, le-ltb, le-leb}
use lib.Dec.{ltb}
use lib.ListN.{length}
use Rattle.laws.specs.Said.{answers}
use Rattle.laws.proofs.Test.{lt_or_le}
use Rattle.refusal.specs.Refusal.{limit}
use Rattle.templates.specs.Kind.{kind_of}
use Rattle.templates.specs.Says.{judges}
use Rattle.counts.specs.Count.{get_sig_op_count, count_says}
use Rattle.dust.specs.Dust.{dust_of, dust_says}
use Rattle.asm.specs.Asm.{text_of, asm_len_says, asm_says}
use Rattle.screen.specs.Screen.{most_shown}

module _ (s : List ℕ) (h : length s ≤ limit) where
  pub kinded : judges kind_of s ≡ answers (kind_of s)
  unfolding judges
  kinded = rw (le-ltb limit (length s) h)

  pub dusted : dust_says s ≡ answers (dust_of s)
  unfolding dust_says
  dusted = rw (le-ltb limit (length s) h)

  pub counted : (accurate : Bool) → count_says accurate s ≡ answers (get_sig_op_count accurate s)
  unfolding count_says
  counted accurate = rw (le-ltb limit (length s) h)

  pub measured : asm_len_says s ≡ answers (length (text_of s))
  unfolding asm_len_says
  measured = rw (le-ltb limit (length s) h)

  pub texted : (room : ℕ) → length (text_of s) ≤ room → asm_says s room ≡ answers (length (text_of s))
  unfolding asm_says
  texted room r = rw (le-ltb limit (length s) h, le-leb (length (text_of s)) room r)

-- a script that is not within the inspector's limit is over it
pub over_limit : (s : List ℕ) → (length s ≤ most_shown → ◌≡◌ {A = Bool} false true) → ltb most_shown (length s) ≡ true
over_limit s absent =
    ⊎_elim
    (λ (l : most_shown < length s). lt-ltb most_shown (length s) l)
    (λ (h : length s ≤ most_shown). let e = absent h in cc)
    (lt_or_le most_shown (length s))
