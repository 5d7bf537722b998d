-- Each entry is settled: two outcomes that its contract permits for one input are equal. Assumes nothing.
use mathlib.Core.Path.{◌≡◌}
use mathlib.Core.Bool.{Bool}
use Rattle.laws.proofs.Settled.{same_value}
use Rattle.fixed.proofs.p2sh.Reads as p2sh
use Rattle.fixed.proofs.p2pkh.Reads as p2pkh
use Rattle.fixed.proofs.version.Reads as version
use Rattle.fixed.proofs.witness.Reads as witness
use Rattle.fixed.proofs.program.Reads as program
use Rattle.fixed.proofs.p2a.Reads as p2a
use Rattle.fixed.proofs.p2pk.Reads as p2pk
use Rattle.fixed.proofs.op_return.Reads as op-return
use Rattle.std.specs.Prelude.{Option}
use Prim.Native.Nat.{ℕ}

pub p2sh_settled : (κs : _) (a : _) (r t : Bool) (s u : _) → p2sh.Post κs a r s → p2sh.Post κs a t u → r ≡ t
p2sh_settled κs a r t s u = same_value

pub p2pkh_settled : (κs : _) (a : _) (r t : Bool) (s u : _) → p2pkh.Post κs a r s → p2pkh.Post κs a t u → r ≡ t
p2pkh_settled κs a r t s u = same_value

pub version_settled : (κs : _) (a : _) (r t : Option ℕ) (s u : _) → version.Post κs a r s → version.Post κs a t u → r ≡ t
version_settled κs a r t s u = same_value

pub witness_settled : (κs : _) (a : _) (r t : Bool) (s u : _) → witness.Post κs a r s → witness.Post κs a t u → r ≡ t
witness_settled κs a r t s u = same_value

pub program_settled : (κs : _) (a : _) (r t : Bool) (s u : _) → program.Post κs a r s → program.Post κs a t u → r ≡ t
program_settled κs a r t s u = same_value

pub p2a_settled : (κs : _) (a : _) (r t : Bool) (s u : _) → p2a.Post κs a r s → p2a.Post κs a t u → r ≡ t
p2a_settled κs a r t s u = same_value

pub p2pk_settled : (κs : _) (a : _) (r t : Bool) (s u : _) → p2pk.Post κs a r s → p2pk.Post κs a t u → r ≡ t
p2pk_settled κs a r t s u = same_value

pub op_return_settled : (κs : _) (a : _) (r t : Bool) (s u : _) → op-return.Post κs a r s → op-return.Post κs a t u → r ≡ t
op_return_settled κs a r t s u = same_value
