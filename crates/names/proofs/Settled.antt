-- Each entry is settled: two outcomes that its contract permits for one input are equal. Assumes nothing.
use mathlib.Core.Path.{◌≡◌}
use Prim.Native.Nat.{ℕ}
use Rattle.laws.proofs.Settled.{settled, same_value}
use Rattle.refusal.proofs.Same.{same_answer}
use Rattle.names.proofs.name_len_in.Reads as name-len-in
use Rattle.names.proofs.name_in.Reads as name_in
use Rattle.names.specs.declared.NameLengths.{NameLengths}
use Rattle.names.specs.declared.Names.{Names}
use Rattle.names.proofs.NameLengths.new.Reads as lengths-new
use Rattle.names.proofs.NameLengths.len.Reads as length
use Rattle.names.proofs.Names.new.Reads as names-new
use Rattle.names.proofs.Names.name.Reads as name
use Rattle.names.proofs.name_len.Reads as name-len
use Rattle.names.proofs.write_name.Reads as write-name
use Rattle.refusal.specs.declared.Refusal.{Refusal}
use Rattle.std.specs.Prelude.{Result}

pub name_len_in_settled : (κs : _) (a : _) (r t : ℕ) (s u : _) → name-len-in.Post κs a r s → name-len-in.Post κs a t u → r ≡ t
name_len_in_settled κs a r t s u = same_value

pub name_len_settled : (κs : _) (a : _) (r t : ℕ) (s u : _) → name-len.Post κs a r s → name-len.Post κs a t u → r ≡ t
name_len_settled κs a r t s u = same_value

-- the part has the same bytes and lies at the same place
pub name_in_settled : (κs : _) (a : _) (r t : _) (s u : _) → name_in.Post κs a r s → name_in.Post κs a t u → (r.now ≡ t.now) × (r.ref_ptr ≡ t.ref_ptr)
name_in_settled κs a r t s u p q = (same_value p.0 q.0, same_value p.1 q.1)

-- the answer and the lent buffer
pub write_name_settled : (κs : _) (a : _) (r t : Result ℕ Refusal) (s u : _) → write-name.Post κs a r s → write-name.Post κs a t u → (r ≡ t) × (s.1.0.now ≡ u.1.0.now)
write_name_settled κs a r t s u p q = (settled same_answer r t p.0 q.0, same_value p.1 q.1)

pub len_settled : (κs : _) (a : _) (r t : ℕ) (s u : _) → length.Post κs a r s → length.Post κs a t u → r ≡ t
len_settled κs a r t s u = same_value

-- the name has the same bytes
pub name_settled : (κs : _) (a : _) (r t : _) (s u : _) → name.Post κs a r s → name.Post κs a t u → r.now ≡ t.now
name_settled κs a r t s u = same_value

-- the fields of a new value; what is built is the tables of names
pub lengths_new_settled : (κs : _) (a : _) (r t : NameLengths) (s u : _) → lengths-new.Post κs a r s → lengths-new.Post κs a t u → r.table ≡ t.table
lengths_new_settled κs a r t s u p q = same_value r.of_names t.of_names

pub names_new_settled : (κs : _) (a : _) (r t : Names) (s u : _) → names-new.Post κs a r s → names-new.Post κs a t u
    → (r.pool ≡ t.pool) × (r.starts ≡ t.starts) × (r.lengths.table ≡ t.lengths.table)
names_new_settled κs a r t s u p q = (same_value r.pool_is t.pool_is, same_value r.starts_are t.starts_are, same_value r.lengths.of_names t.lengths.of_names)
