-- Each entry is settled: two outcomes that its contract permits for one input are equal. Assumes nothing.
use mathlib.Core.Path.{◌≡◌}
use Prim.Native.Nat.{ℕ}
use Rattle.laws.proofs.Settled.{settled, same_value}
use Rattle.refusal.proofs.Same.{same_answer}
use Rattle.layout.proofs.given.check.Reads as check
use Rattle.layout.proofs.given.shown_len.Reads as shown-len
use Rattle.layout.proofs.choose.int_opcode.Reads as int-opcode
use Rattle.layout.proofs.choose.verify_form.Reads as verify-form
use Rattle.layout.proofs.choose.last_opcode.Reads as last-opcode
use Rattle.layout.proofs.store.lay.Reads as lay
use Rattle.refusal.specs.declared.Refusal.{Refusal}
use Rattle.std.specs.Prelude.{Result, Option}

pub int_opcode_settled : (κs : _) (a : _) (r t : Option ℕ) (s u : _) → int-opcode.Post κs a r s → int-opcode.Post κs a t u → r ≡ t
int_opcode_settled κs a r t s u = same_value

pub verify_form_settled : (κs : _) (a : _) (r t : Option ℕ) (s u : _) → verify-form.Post κs a r s → verify-form.Post κs a t u → r ≡ t
verify_form_settled κs a r t s u = same_value

pub last_opcode_settled : (κs : _) (a : _) (r t : Option ℕ) (s u : _) → last-opcode.Post κs a r s → last-opcode.Post κs a t u → r ≡ t
last_opcode_settled κs a r t s u = same_value

-- the answer and the lent buffer
pub lay_settled : (κs : _) (a : _) (r t : Result ℕ Refusal) (s u : _) → lay.Post κs a r s → lay.Post κs a t u → (r ≡ t) × (s.0.now ≡ u.0.now)
lay_settled κs a r t s u p q = (settled same_answer r t p.0 q.0, same_value p.1 q.1)

pub check_settled : (κs : _) (a : _) (r t : Result (Unit {0}) Refusal) (s u : _) → check.Post κs a r s → check.Post κs a t u → r ≡ t
check_settled κs a r t s u = settled same_answer r t

pub shown_len_settled : (κs : _) (a : _) (r t : ℕ) (s u : _) → shown-len.Post κs a r s → shown-len.Post κs a t u → r ≡ t
shown_len_settled κs a r t s u p q = same_value p.0 q.0
