-- What an answer that says `len_says` tells of the number. Assumes nothing.
use mathlib.Core.Path.{◌≡◌, refl, sym, ap, ◌∙◌}
use mathlib.Core.Bool.{Bool, true, false}
use mathlib.Core.List.{[]}
use Prim.Native.Nat.{ℕ}
use native.Mathlib.Omega.{arith}
use lib.IntN.{ℤ}
use lib.ListN.{length}
use Rattle.std.specs.Prelude.{if◌then◌else◌}
use Rattle.laws.specs.Said.{answers, refuses}
use Rattle.refusal.specs.Refusal.{said_refusal}
use Rattle.refusal.specs.Answer.{said}
use Rattle.refusal.specs.declared.Refusal.{Refusal}
use Rattle.numbers.specs.ScriptNum.{serialize}
use Rattle.numbers.specs.Answer.{is_least, len_says}
use Rattle.std.specs.Prelude.{Result, Ok, Err}

answered : (b : Bool) (k x : ℕ) → answers k ≡ (if b then refuses 6 [] else answers x) → (b ≡ false) × (k ≡ x)
answered true k x e = absurd (let z : ◌≡◌ {A = ℕ} 0 1 = cc in omega arith)
answered false k x e = (refl, cc)

refused : (b : Bool) (r : Refusal) (x : ℕ) → said_refusal r ≡ (if b then refuses 6 [] else answers x) → b ≡ true
refused true r x e = refl
refused false r x e = absurd (let z : ◌≡◌ {A = ℕ} 0 1 = cc in omega arith)

module _ (n : ℤ) {r : Result ℕ Refusal} (e : said r ≡ len_says n) where
  pub counted : {k : ℕ} → r ≡ Ok k → (is_least n ≡ false) × (k ≡ length (serialize n))
  unfolding len_says
  counted {k} d = answered (is_least n) k (length (serialize n)) (sym (ap said d) ∙ e)

  pub least : {t : Refusal} → r ≡ Err t → is_least n ≡ true
  unfolding len_says
  least {t} d = refused (is_least n) t (length (serialize n)) (sym (ap said d) ∙ e)
