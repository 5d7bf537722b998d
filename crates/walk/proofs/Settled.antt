-- Each entry is settled: two outcomes that its contract permits for one input are equal. Of a part that is handed back: its bytes and where it
-- lies. Assumes nothing.
use mathlib.Core.Path.{◌≡◌, refl, ap, ap₂}
use mathlib.Core.List.{List}
use Prim.Native.Nat.{ℕ}
use denote.Ref.{Bor}
use Rattle.laws.proofs.Settled.{settled, same_value}
use Rattle.refusal.proofs.Same.{same_refusal, same_answer}
use Rattle.opcodes.proofs.Same.{same_form}
use Rattle.walk.specs.Answer.{said_found}
use Rattle.walk.specs.declared.Cursor.{Cursor}
use Rattle.walk.specs.declared.Instruction.TheVariants.{Opcode, Push}
use Rattle.walk.proofs.Turn.{Found}
use Rattle.walk.specs.declared.Stepped.{Stepped}
use Rattle.walk.proofs.Cursor.new.Reads as new
use Rattle.walk.proofs.Cursor.next.Reads as next
use Rattle.walk.proofs.Cursor.size.Reads as size
use Rattle.walk.proofs.whole_size.Reads as whole-size
use Rattle.walk.proofs.part.body.Reads as body
use Rattle.refusal.specs.declared.Refusal.{Refusal}
use Rattle.std.specs.Prelude.{Result, Ok, Err, None, Some}

pub same_found : (a b : Found) → said_found a ≡ said_found b → a ≡ b
same_found (Ok None) (Ok None) e = refl
same_found (Ok None) (Ok (Some (Opcode p c))) e = cc
same_found (Ok None) (Ok (Some (Push p f b n))) e = cc
same_found (Ok None) (Err r) e = cc
same_found (Ok (Some (Opcode p c))) (Ok None) e = cc
same_found (Ok (Some (Opcode p c))) (Ok (Some (Opcode q d))) e = cc
same_found (Ok (Some (Opcode p c))) (Ok (Some (Push q f b n))) e = cc
same_found (Ok (Some (Opcode p c))) (Err r) e = cc
same_found (Ok (Some (Push p f b n))) (Ok None) e = cc
same_found (Ok (Some (Push p f b n))) (Ok (Some (Opcode q d))) e = cc
same_found (Ok (Some (Push p f b n))) (Ok (Some (Push q g d m))) e = let h : f ≡ g = same_form f g (cc) in cc
same_found (Ok (Some (Push p f b n))) (Err r) e = cc
same_found (Err r) (Ok None) e = cc
same_found (Err r) (Ok (Some (Opcode q d))) e = cc
same_found (Err r) (Ok (Some (Push q f b n))) e = cc
same_found (Err r) (Err t) e = ap Err (same_refusal r t e)

abbrev cursor : ℕ → Cursor
cursor at = record { at = at }

abbrev stepped : Found → ℕ → Stepped
stepped found at = record { found = found; next = cursor at }

pub new_settled : (κs : _) (a : _) (r t : Cursor) (s u : _) → new.Post κs a r s → new.Post κs a t u → r ≡ t
new_settled κs a r t s u p q = ap cursor (same_value p q)

pub size_settled : (κs : _) (a : _) (r t : Result ℕ Refusal) (s u : _) → size.Post κs a r s → size.Post κs a t u → r ≡ t
size_settled κs a r t s u = settled same_answer r t

pub whole_size_settled : (κs : _) (a : _) (r t : ℕ) (s u : _) → whole-size.Post κs a r s → whole-size.Post κs a t u → r ≡ t
whole_size_settled κs a r t s u = same_value

pub next_settled : (κs : _) (a : _) (r t : Stepped) (s u : _) → next.Post κs a r s → next.Post κs a t u → r ≡ t
next_settled κs a r t s u p q = ap₂ stepped (settled same_found r.found t.found p.0 q.0) (same_value p.1 q.1)

pub body_settled : (κs : _) (a : _) (r t : Bor (List ℕ)) (s u : _) → body.Post κs a r s → body.Post κs a t u → (r.now ≡ t.now) × (r.ref_ptr ≡ t.ref_ptr)
body_settled κs a r t s u p q = (same_value p.bytes q.bytes, same_value p.lies q.lies)
