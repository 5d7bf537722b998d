-- Each entry is settled: two outcomes that its contract permits for one input are equal: the number, the values, and a lent cursor. Assumes nothing.
use mathlib.Core.Path.{◌≡◌, refl}
use Prim.Native.Nat.{ℕ}
use Rattle.laws.proofs.Settled.{settled, same_value}
use Rattle.walk.specs.Answer.{is_minimal}
use Rattle.walk.specs.declared.Mode.{Mode}
use Rattle.walk.specs.declared.Mode.TheVariants.{Plain, Minimal}
use Rattle.hand.proofs.Handing.{same_handed}
use Rattle.step.proofs.mode_of.Reads as mode_of
use Rattle.step.proofs.next.Reads as next
use Rattle.step.proofs.body.Reads as body
use Rattle.step.proofs.advance.Reads as advance

same_mode : (a b : Mode) → is_minimal a ≡ is_minimal b → a ≡ b
same_mode Plain Plain e = refl
same_mode Plain Minimal e = cc
same_mode Minimal Plain e = cc
same_mode Minimal Minimal e = refl

pub mode_of_settled : (κs : _) (a : _) (r t : Mode) (s u : _) → mode_of.Post κs a r s → mode_of.Post κs a t u → r ≡ t
mode_of_settled κs a r t s u = settled same_mode r t

pub next_settled : (κs : _) (a : _) (r t : ℕ) (s u : _) → next.Post κs a r s → next.Post κs a t u → (r ≡ t) × (s.1.1.1.0.now ≡ u.1.1.1.0.now)
next_settled κs a r t s u p q = same_handed p q

pub body_settled : (κs : _) (a : _) (r t : ℕ) (s u : _) → body.Post κs a r s → body.Post κs a t u → (r ≡ t) × (s.1.1.1.0.now ≡ u.1.1.1.0.now)
body_settled κs a r t s u p q = same_handed p q

pub advance_settled : (κs : _) (a : _) (r t : ℕ) (s u : _) → advance.Post κs a r s → advance.Post κs a t u
    → (r ≡ t) × (s.1.1.1.0.now ≡ u.1.1.1.0.now) × (s.0.now ≡ u.0.now)
advance_settled κs a r t s u p q = let h = same_handed p.0 q.0 in (h.0, h.1, same_value p.1 q.1)
