-- Reads one after the other bring what was to come in order, and the screen of a script is known by its first 2,801 bytes. Assumes nothing.
use mathlib.Core.Path.{◌≡◌, refl, sym, ap, ◌∙◌}
use mathlib.Core.List.{List, ◌++◌, append_assoc}
use mathlib.Core.Logic.{⊎_elim}
use Prim.Native.Nat.{ℕ, ◌≤◌, ◌<◌}
use native.Mathlib.Omega.{arith}
use borrow.Author.Tests.{lt-ltb}
use lib.ListN.{length, take}
use lib.Seq.{take_at, take_all, length-take-le}
use Rattle.std.specs.Prelude.{Option, None, Some}
use Rattle.std.specs.Io.KnownBytes.{Consumes}
use Rattle.laws.proofs.Test.{lt_or_le}
use Rattle.screen.specs.Screen.{most_shown, screen_of}
use Rattle.screen.proofs.Whole.{over}
use Rattle.shown.specs.Reads.{Brings, Shows}

-- what one read brings behind what others brought
pub then : (old mid new : Option (List ℕ)) (xs ys zs : List ℕ) → Consumes old mid xs → Consumes mid new ys → zs ≡ xs ++ ys → Consumes old new zs
then None mid new xs ys zs p q e = tt
then (Some a) None new xs ys zs p q e = absurd p
then (Some a) (Some b) None xs ys zs p q e = absurd q
then (Some a) (Some b) (Some c) xs ys zs p q e = p ∙ rw (q, e) (sym (append_assoc xs ys c))

-- more than is inspected shows no more than that it is
pub cut : (s : List ℕ) (room : ℕ) → most_shown < room → screen_of (take room s) ≡ screen_of s
cut s room h =
    ⊎_elim
    (λ (l : room < length s).
    let k : length (take room s) ≡ room = length-take-le room s (omega arith) in
    rw (over (take room s) (lt-ltb most_shown (length (take room s)) (omega (arith, k))), over s (lt-ltb most_shown (length s) (omega arith))) refl)
    (λ (g : length s ≤ room). ap screen_of (take_all room s g))
    (lt_or_le room (length s))

-- what is written for the bytes that were read is the screen of the whole script
pub shows : (to_come : Option (List ℕ)) (buf out rest : List ℕ) (n m : ℕ) → most_shown < length buf → Brings to_come buf n
    → out ≡ screen_of (take n buf) ++ rest → m ≡ length (screen_of (take n buf)) → m ≤ length out → Shows to_come out m
shows None buf out rest n m h w o e l = record { fits = l; bytes = tt }
shows (Some xs) buf out rest n m h w o e l =
    let front : take m out ≡ screen_of (take n buf) = rw o (take_at (screen_of (take n buf)) rest m (sym e)) in
    record { fits = l; bytes = front ∙ ap screen_of w.bytes ∙ cut xs (length buf) h }
