-- Each entry is settled: two outcomes that its contract permits for one input are equal: the builder, the number and the values. Assumes nothing.
use mathlib.Core.Path.{◌≡◌}
use mathlib.Core.List.{[]}
use Prim.Native.Nat.{ℕ}
use Rattle.laws.proofs.Settled.{same_value}
use Rattle.builder.specs.declared.Builder.{Builder}
use Rattle.builder.proofs.Same.{same_builder}
use Rattle.hand.proofs.Handing.{same_handed}
use Rattle.held.proofs.builder_of.Reads as builder-of
use Rattle.held.proofs.remembered_as.Reads as remembered-as
use Rattle.held.proofs.built.Reads as built

pub builder_of_settled : (κs : _) (a : _) (r t : Builder) (s u : _) → builder-of.Post κs a r s → builder-of.Post κs a t u → r ≡ t
builder_of_settled κs a r t s u p q = same_builder r t (same_value p.0 q.0) (same_value p.1 q.1)

pub remembered_as_settled : (κs : _) (a : _) (r t : ℕ) (s u : _) → remembered-as.Post κs a r s → remembered-as.Post κs a t u → r ≡ t
remembered_as_settled κs a r t s u = same_value

pub built_settled : (κs : _) (a : _) (r t : ℕ) (s u : _) → built.Post κs a r s → built.Post κs a t u → (r ≡ t) × (s.1.0.now ≡ u.1.0.now)
built_settled κs a r t s u p q = same_handed (p []) (q [])
