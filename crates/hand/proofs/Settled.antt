-- Each entry is settled: two outcomes that its contract permits for one input are equal: the number and the values. Assumes nothing.
use mathlib.Core.Path.{◌≡◌}
use Prim.Native.Nat.{ℕ}
use Rattle.laws.proofs.Settled.{same_value}
use Rattle.hand.proofs.Handing.{same_handed}
use Rattle.hand.proofs.refusal.Reads as refusal
use Rattle.hand.proofs.over.Reads as over
use Rattle.hand.proofs.number.Reads as number
use Rattle.hand.proofs.Row.store.Reads as store
use Rattle.hand.proofs.part.Reads as part
use Rattle.hand.proofs.two.Reads as two

pub refusal_settled : (κs : _) (a : _) (r t : ℕ) (s u : _) → refusal.Post κs a r s → refusal.Post κs a t u → (r ≡ t) × (s.1.0.now ≡ u.1.0.now)
refusal_settled κs a r t s u p q = (same_value p.0 q.0, same_value p.1 q.1)

-- at every type of row
pub over_settled : (T : _) (row : _) (row_dict : _) (copy : _) (copy_dict : _) (clone : _) (clone_dict : _) (κs : _) (a : _) (r t : ℕ) (s u : _)
    → over.Post T row row_dict copy copy_dict clone clone_dict κs a r s → over.Post T row row_dict copy copy_dict clone clone_dict κs a t u
    → (r ≡ t) × (s.1.0.now ≡ u.1.0.now)
over_settled T row row_dict copy copy_dict clone clone_dict κs a r t s u p q = same_handed p q

pub number_settled : (κs : _) (a : _) (r t : ℕ) (s u : _) → number.Post κs a r s → number.Post κs a t u → (r ≡ t) × (s.1.0.now ≡ u.1.0.now)
number_settled κs a r t s u p q = same_handed p q

pub part_settled : (κs : _) (a : _) (r t : ℕ) (s u : _) → part.Post κs a r s → part.Post κs a t u → (r ≡ t) × (s.1.0.now ≡ u.1.0.now)
part_settled κs a r t s u p q = same_handed p q

pub two_settled : (κs : _) (a : _) (r t : ℕ) (s u : _) → two.Post κs a r s → two.Post κs a t u → (r ≡ t) × (s.1.1.0.now ≡ u.1.1.0.now)
two_settled κs a r t s u p q = same_handed p q

-- a row stored, of every type of row
pub store_settled : (T : _) (row : _) (row_dict : _) (copy : _) (copy_dict : _) (clone : _) (clone_dict : _) (κs : _) (a : _) (r t : _) (s u : _)
    → store.Post T row row_dict copy copy_dict clone clone_dict κs a r s → store.Post T row row_dict copy copy_dict clone clone_dict κs a t u
    → s.1.0.now ≡ u.1.0.now
store_settled T row row_dict copy copy_dict clone clone_dict κs a r t s u p q = same_value p q
