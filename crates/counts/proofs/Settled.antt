-- Each entry is settled: two outcomes that its contract permits for one input are equal. Assumes nothing.
use mathlib.Core.Path.{◌≡◌}
use Rattle.laws.proofs.Settled.{settled}
use Rattle.refusal.proofs.Same.{same_answer}
use Rattle.counts.proofs.count_sigops.Reads as count-sigops
use Rattle.counts.proofs.count_sigops_legacy.Reads as count-sigops-legacy
use Rattle.refusal.specs.declared.Refusal.{Refusal}
use Rattle.std.specs.Prelude.{Result}
use Prim.Native.Nat.{ℕ}

pub count_sigops_settled : (κs : _) (a : _) (r t : Result ℕ Refusal) (s u : _) → count-sigops.Post κs a r s → count-sigops.Post κs a t u → r ≡ t
count_sigops_settled κs a r t s u = settled same_answer r t

pub count_sigops_legacy_settled : (κs : _) (a : _) (r t : Result ℕ Refusal) (s u : _) → count-sigops-legacy.Post κs a r s → count-sigops-legacy.Post κs a t u → r ≡ t
count_sigops_legacy_settled κs a r t s u = settled same_answer r t
