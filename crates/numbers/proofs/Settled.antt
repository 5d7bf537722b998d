-- Each entry is settled: two outcomes that its contract permits for one input are equal, and so are the buffers that they leave.
-- Assumes nothing.
use mathlib.Core.Path.{◌≡◌}
use Rattle.laws.proofs.Settled.{settled, same_value}
use Rattle.refusal.proofs.Same.{same_answer}
use Rattle.numbers.proofs.write.scriptint_len.Reads as scriptint-len
use Rattle.numbers.proofs.write.write_scriptint.Reads as write-scriptint
use Rattle.numbers.proofs.read.read_scriptint.Reads as read-scriptint
use Rattle.numbers.proofs.read.read_scriptint_non_minimal.Reads as read-scriptint-non-minimal
use Rattle.numbers.proofs.read.read_scriptbool.Reads as read-scriptbool
use Rattle.refusal.specs.declared.Refusal.{Refusal}
use Rattle.std.specs.Prelude.{Result}
use Prim.Native.Nat.{ℕ}
use lib.IntN.{ℤ}
use mathlib.Core.Bool.{Bool}

pub scriptint_len_settled : (κs : _) (a : _) (r t : Result ℕ Refusal) (s u : _) → scriptint-len.Post κs a r s → scriptint-len.Post κs a t u → r ≡ t
scriptint_len_settled κs a r t s u = settled same_answer r t

pub write_scriptint_settled : (κs : _) (a : _) (r t : Result ℕ Refusal) (s u : _) → write-scriptint.Post κs a r s → write-scriptint.Post κs a t u → (r ≡ t) × (s.1.0.now ≡ u.1.0.now)
write_scriptint_settled κs a r t s u p q = (settled same_answer r t p.0 q.0, same_value p.1 q.1)

pub read_scriptint_settled : (κs : _) (a : _) (r t : Result ℤ Refusal) (s u : _) → read-scriptint.Post κs a r s → read-scriptint.Post κs a t u → r ≡ t
read_scriptint_settled κs a r t s u = settled same_answer r t

pub read_scriptint_non_minimal_settled :
    (κs : _) (a : _) (r t : Result ℤ Refusal) (s u : _) → read-scriptint-non-minimal.Post κs a r s → read-scriptint-non-minimal.Post κs a t u → r ≡ t
read_scriptint_non_minimal_settled κs a r t s u = settled same_answer r t

pub read_scriptbool_settled : (κs : _) (a : _) (r t : Result Bool Refusal) (s u : _) → read-scriptbool.Post κs a r s → read-scriptbool.Post κs a t u → r ≡ t
read_scriptbool_settled κs a r t s u = settled same_answer r t
