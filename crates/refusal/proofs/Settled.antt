-- Each entry is settled: two outcomes that its contract permits for one input are equal. Assumes nothing.
use mathlib.Core.Path.{◌≡◌, refl, sym, ap, ◌∙◌}
use native.Mathlib.Omega.{arith}
use Rattle.std.specs.Prelude.{Result, Ok, Err}
use Rattle.refusal.specs.declared.Refusal.{Refusal}
use Rattle.refusal.proofs.check_limit.Reads as check-limit
use Prim.Native.Nat.{ℕ}
use Rattle.laws.proofs.Settled.{same_value}
use Rattle.refusal.specs.declared.Value.{Value}
use Rattle.refusal.proofs.Same.{same_said}
use Rattle.refusal.proofs.Refusal.number.Reads as number
use Rattle.refusal.proofs.Refusal.value.Reads as value
use Rattle.refusal.proofs.Value.len.Reads as len

pub number_settled : (κs : _) (a : _) (r t : ℕ) (s u : _) → number.Post κs a r s → number.Post κs a t u → r ≡ t
number_settled κs a r t s u p q = same_value p q

pub value_settled : (κs : _) (a : _) (r t : Value) (s u : _) → value.Post κs a r s → value.Post κs a t u → r ≡ t
value_settled κs a r t s u p q = same_said r t (p ∙ sym q)

pub len_settled : (κs : _) (a : _) (r t : ℕ) (s u : _) → len.Post κs a r s → len.Post κs a t u → r ≡ t
len_settled κs a r t s u p q = same_value p q

pub check_limit_settled : (κs : _) (a : _) (r t : Result (Unit {0}) Refusal) (s u : _) → check-limit.Post κs a r s → check-limit.Post κs a t u → r ≡ t
check_limit_settled κs a (Ok x) (Ok y) s u p q = refl
check_limit_settled κs a (Ok x) (Err t) s u p q = absurd (omega (arith, p.0, q.1.1))
check_limit_settled κs a (Err r) (Ok y) s u p q = absurd (omega (arith, q.0, p.1.1))
check_limit_settled κs a (Err r) (Err t) s u p q = ap Err (p.1.0 ∙ sym q.1.0)
