-- Each entry is settled: two outcomes that its contract permits for one input are equal. Assumes nothing.
use mathlib.Core.Path.{◌≡◌}
use Rattle.laws.proofs.Settled.{settled}
use Rattle.refusal.proofs.Same.{same_answer}
use Rattle.dust.proofs.minimal_non_dust.Reads as minimal-non-dust
use Rattle.dust.proofs.minimal_non_dust_custom.Reads as minimal-non-dust-custom
use Rattle.refusal.specs.declared.Refusal.{Refusal}
use Rattle.std.specs.Prelude.{Result}
use Prim.Native.Nat.{ℕ}

pub minimal_non_dust_settled : (κs : _) (a : _) (r t : Result ℕ Refusal) (s u : _) → minimal-non-dust.Post κs a r s → minimal-non-dust.Post κs a t u → r ≡ t
minimal_non_dust_settled κs a r t s u = settled same_answer r t

pub minimal_non_dust_custom_settled : (κs : _) (a : _) (r t : Result ℕ Refusal) (s u : _) → minimal-non-dust-custom.Post κs a r s → minimal-non-dust-custom.Post κs a t u
    → r ≡ t
minimal_non_dust_custom_settled κs a r t s u = settled same_answer r t
