-- Each entry is settled: two outcomes that its contract permits for one input are equal. Assumes nothing.
use mathlib.Core.Path.{◌≡◌}
use Prim.Native.Nat.{ℕ}
use Rattle.laws.proofs.Settled.{settled, same_value}
use Rattle.opcodes.specs.declared.Class.{Class}
use Rattle.std.specs.Prelude.{Option}
use Rattle.opcodes.proofs.Same.{same_class}
use Rattle.opcodes.proofs.classify.Reads as classify
use Rattle.opcodes.proofs.length_bytes.Reads as length-bytes
use Rattle.opcodes.proofs.decode_pushnum.Reads as decode-pushnum
use Rattle.opcodes.proofs.opcode_to_verify.Reads as opcode-to-verify

pub classify_settled : (κs : _) (a : _) (r t : Class) (s u : _) → classify.Post κs a r s → classify.Post κs a t u → r ≡ t
classify_settled κs a r t s u = settled same_class r t

pub length_bytes_settled : (κs : _) (a : _) (r t : ℕ) (s u : _) → length-bytes.Post κs a r s → length-bytes.Post κs a t u → r ≡ t
length_bytes_settled κs a r t s u = same_value

pub decode_pushnum_settled : (κs : _) (a : _) (r t : Option ℕ) (s u : _) → decode-pushnum.Post κs a r s → decode-pushnum.Post κs a t u → r ≡ t
decode_pushnum_settled κs a r t s u = same_value

pub opcode_to_verify_settled : (κs : _) (a : _) (r t : Option ℕ) (s u : _) → opcode-to-verify.Post κs a r s → opcode-to-verify.Post κs a t u → r ≡ t
opcode_to_verify_settled κs a r t s u = same_value
