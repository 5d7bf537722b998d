-- Each entry is settled: two outcomes that its contract permits for one input are equal. Assumes nothing.
use mathlib.Core.Path.{◌≡◌}
use Prim.Native.Nat.{ℕ}
use Rattle.laws.proofs.Settled.{settled, same_value}
use Rattle.refusal.proofs.Same.{same_answer}
use Rattle.measure.proofs.asm_len.Reads as asm-len
use Rattle.measure.proofs.size.length_bytes_after.Reads as length-bytes-after
use Rattle.measure.proofs.size.data_len.Reads as data-len
use Rattle.refusal.specs.declared.Refusal.{Refusal}
use Rattle.std.specs.Prelude.{Result}

pub asm_len_settled : (κs : _) (a : _) (r t : Result ℕ Refusal) (s u : _) → asm-len.Post κs a r s → asm-len.Post κs a t u → r ≡ t
asm_len_settled κs a r t s u = settled same_answer r t

pub length_bytes_after_settled : (κs : _) (a : _) (r t : ℕ) (s u : _) → length-bytes-after.Post κs a r s → length-bytes-after.Post κs a t u → r ≡ t
length_bytes_after_settled κs a r t s u = same_value

pub data_len_settled : (κs : _) (a : _) (r t : ℕ) (s u : _) → data-len.Post κs a r s → data-len.Post κs a t u → r ≡ t
data_len_settled κs a r t s u = same_value
