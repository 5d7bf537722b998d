-- Each entry is settled: two outcomes that its contract permits for one input are equal, and so are the buffers that they leave. Of the part that
-- is handed back: its bytes and where it lies. Assumes nothing.
use mathlib.Core.Path.{◌≡◌, sym, ◌∙◌}
use mathlib.Core.List.{List}
use Prim.Native.Nat.{ℕ}
use denote.Ref.{Bor}
use Rattle.laws.proofs.Settled.{same_value}
use Rattle.building.specs.Lent.{Outcome}
use Rattle.builder.specs.Answer.{said_built}
use Rattle.builder.specs.declared.Builder.{Builder}
use Rattle.builder.specs.declared.Built.{Built}
use Rattle.builder.proofs.Same.{same_builder, same_built}
use Rattle.builder.proofs.Builder.new.Reads as new
use Rattle.builder.proofs.Builder.start.Reads as start
use Rattle.builder.proofs.Builder.push_opcode.Reads as push-opcode
use Rattle.builder.proofs.Builder.push_slice.Reads as push-slice
use Rattle.builder.proofs.Builder.push_int.Reads as push-int
use Rattle.builder.proofs.Builder.push_lock_time.Reads as push-lock-time
use Rattle.builder.proofs.Builder.push_sequence.Reads as push-sequence
use Rattle.builder.proofs.Builder.push_verify.Reads as push-verify
use Rattle.builder.proofs.Builder.as_bytes.Reads as as_bytes

-- what two calls leave is the same
both : {x : Outcome} (r t : Built) (old new : List ℕ) → said_built r old ≡ x → said_built t new ≡ x → (r ≡ t) × (old ≡ new)
both r t old new p q = same_built r t old new (p ∙ sym q)

pub new_settled : (κs : _) (a : _) (r t : Builder) (s u : _) → new.Post κs a r s → new.Post κs a t u → r ≡ t
new_settled κs a r t s u p q = same_builder r t (same_value p.0 q.0) (same_value p.1 q.1)

pub start_settled : (κs : _) (a : _) (r t : Built) (s u : _) → start.Post κs a r s → start.Post κs a t u → r ≡ t
start_settled κs a r t s u p q = (both r t _ _ p q).0

pub push_opcode_settled : (κs : _) (a : _) (r t : Built) (s u : _) → push-opcode.Post κs a r s → push-opcode.Post κs a t u
    → (r ≡ t) × (s.1.0.now ≡ u.1.0.now)
push_opcode_settled κs a r t s u p q = both r t s.1.0.now u.1.0.now p q

pub push_slice_settled : (κs : _) (a : _) (r t : Built) (s u : _) → push-slice.Post κs a r s → push-slice.Post κs a t u
    → (r ≡ t) × (s.1.0.now ≡ u.1.0.now)
push_slice_settled κs a r t s u p q = both r t s.1.0.now u.1.0.now p q

pub push_int_settled : (κs : _) (a : _) (r t : Built) (s u : _) → push-int.Post κs a r s → push-int.Post κs a t u
    → (r ≡ t) × (s.1.0.now ≡ u.1.0.now)
push_int_settled κs a r t s u p q = both r t s.1.0.now u.1.0.now p q

pub push_lock_time_settled : (κs : _) (a : _) (r t : Built) (s u : _) → push-lock-time.Post κs a r s → push-lock-time.Post κs a t u
    → (r ≡ t) × (s.1.0.now ≡ u.1.0.now)
push_lock_time_settled κs a r t s u p q = both r t s.1.0.now u.1.0.now p q

pub push_sequence_settled : (κs : _) (a : _) (r t : Built) (s u : _) → push-sequence.Post κs a r s → push-sequence.Post κs a t u
    → (r ≡ t) × (s.1.0.now ≡ u.1.0.now)
push_sequence_settled κs a r t s u p q = both r t s.1.0.now u.1.0.now p q

pub push_verify_settled : (κs : _) (a : _) (r t : Built) (s u : _) → push-verify.Post κs a r s → push-verify.Post κs a t u
    → (r ≡ t) × (s.1.0.now ≡ u.1.0.now)
push_verify_settled κs a r t s u p q = both r t s.1.0.now u.1.0.now p q

pub as_bytes_settled : (κs : _) (a : _) (r t : Bor (List ℕ)) (s u : _) → as_bytes.Post κs a r s → as_bytes.Post κs a t u
    → (r.now ≡ t.now) × (r.ref_ptr ≡ t.ref_ptr)
as_bytes_settled κs a r t s u p q = (same_value p.bytes q.bytes, same_value p.lies q.lies)
