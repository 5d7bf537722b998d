-- Each entry is settled: two outcomes that its contract permits for one input are equal. Of a part that is handed back: its bytes and where it
-- lies. Assumes nothing.
use mathlib.Core.Path.{◌≡◌}
use mathlib.Core.List.{List}
use Prim.Native.Nat.{ℕ}
use denote.Ref.{Bor}
use Rattle.laws.proofs.Settled.{settled, same_value}
use Rattle.refusal.proofs.Same.{same_answer, same_by}
use Rattle.walked.specs.Answer.{said_place}
use Rattle.walked.specs.declared.Place.{Place}
use Rattle.templates.specs.Answer.{said_template}
use Rattle.templates.specs.declared.Template.{Template}
use Rattle.templates.proofs.Same.{same_template}
use Rattle.walked.proofs.Same.{same_place}
use Rattle.templates.proofs.judged.is_p2sh.Reads as is-p2sh
use Rattle.templates.proofs.judged.is_p2pkh.Reads as is-p2pkh
use Rattle.templates.proofs.judged.is_witness_program.Reads as is-witness-program
use Rattle.templates.proofs.judged.is_p2wpkh.Reads as is-p2wpkh
use Rattle.templates.proofs.judged.is_p2wsh.Reads as is-p2wsh
use Rattle.templates.proofs.judged.is_p2tr.Reads as is-p2tr
use Rattle.templates.proofs.judged.is_p2a.Reads as is-p2a
use Rattle.templates.proofs.judged.is_p2pk.Reads as is-p2pk
use Rattle.templates.proofs.judged.is_multisig.Reads as is-multisig
use Rattle.templates.proofs.judged.is_op_return.Reads as is-op-return
use Rattle.templates.proofs.judged.is_push_only.Reads as is-push-only
use Rattle.templates.proofs.witness_version.Reads as witness-version
use Rattle.templates.proofs.p2pk_key.Reads as p2pk-key
use Rattle.templates.proofs.redeem_script.Reads as redeem-script
use Rattle.templates.proofs.kind.Reads as kind
use Rattle.templates.proofs.p2pk_key_part.Reads as p2pk-key-part
use Rattle.templates.proofs.redeem_part.Reads as redeem-part
use Rattle.templates.proofs.p2wpkh_script_code.Reads as p2wpkh-script-code
use Rattle.refusal.specs.declared.Refusal.{Refusal}
use Rattle.std.specs.Prelude.{Result, Option}
use mathlib.Core.Bool.{Bool}

pub is_p2sh_settled : (κs : _) (a : _) (r t : Result Bool Refusal) (s u : _) → is-p2sh.Post κs a r s → is-p2sh.Post κs a t u → r ≡ t
is_p2sh_settled κs a r t s u = settled same_answer r t

pub is_p2pkh_settled : (κs : _) (a : _) (r t : Result Bool Refusal) (s u : _) → is-p2pkh.Post κs a r s → is-p2pkh.Post κs a t u → r ≡ t
is_p2pkh_settled κs a r t s u = settled same_answer r t

pub is_witness_program_settled : (κs : _) (a : _) (r t : Result Bool Refusal) (s u : _) → is-witness-program.Post κs a r s → is-witness-program.Post κs a t u → r ≡ t
is_witness_program_settled κs a r t s u = settled same_answer r t

pub is_p2wpkh_settled : (κs : _) (a : _) (r t : Result Bool Refusal) (s u : _) → is-p2wpkh.Post κs a r s → is-p2wpkh.Post κs a t u → r ≡ t
is_p2wpkh_settled κs a r t s u = settled same_answer r t

pub is_p2wsh_settled : (κs : _) (a : _) (r t : Result Bool Refusal) (s u : _) → is-p2wsh.Post κs a r s → is-p2wsh.Post κs a t u → r ≡ t
is_p2wsh_settled κs a r t s u = settled same_answer r t

pub is_p2tr_settled : (κs : _) (a : _) (r t : Result Bool Refusal) (s u : _) → is-p2tr.Post κs a r s → is-p2tr.Post κs a t u → r ≡ t
is_p2tr_settled κs a r t s u = settled same_answer r t

pub is_p2a_settled : (κs : _) (a : _) (r t : Result Bool Refusal) (s u : _) → is-p2a.Post κs a r s → is-p2a.Post κs a t u → r ≡ t
is_p2a_settled κs a r t s u = settled same_answer r t

pub is_p2pk_settled : (κs : _) (a : _) (r t : Result Bool Refusal) (s u : _) → is-p2pk.Post κs a r s → is-p2pk.Post κs a t u → r ≡ t
is_p2pk_settled κs a r t s u = settled same_answer r t

pub is_multisig_settled : (κs : _) (a : _) (r t : Result Bool Refusal) (s u : _) → is-multisig.Post κs a r s → is-multisig.Post κs a t u → r ≡ t
is_multisig_settled κs a r t s u = settled same_answer r t

pub is_op_return_settled : (κs : _) (a : _) (r t : Result Bool Refusal) (s u : _) → is-op-return.Post κs a r s → is-op-return.Post κs a t u → r ≡ t
is_op_return_settled κs a r t s u = settled same_answer r t

pub is_push_only_settled : (κs : _) (a : _) (r t : Result Bool Refusal) (s u : _) → is-push-only.Post κs a r s → is-push-only.Post κs a t u → r ≡ t
is_push_only_settled κs a r t s u = settled same_answer r t

pub witness_version_settled : (κs : _) (a : _) (r t : Result (Option ℕ) Refusal) (s u : _) → witness-version.Post κs a r s → witness-version.Post κs a t u → r ≡ t
witness_version_settled κs a r t s u = settled same_answer r t

pub p2pk_key_settled : (κs : _) (a : _) (r t : Result (Option Place) Refusal) (s u : _) → p2pk-key.Post κs a r s → p2pk-key.Post κs a t u → r ≡ t
p2pk_key_settled κs a r t s u = settled (same_by said_place same_place) r t

pub redeem_script_settled : (κs : _) (a : _) (r t : Result (Option Place) Refusal) (s u : _) → redeem-script.Post κs a r s → redeem-script.Post κs a t u → r ≡ t
redeem_script_settled κs a r t s u = settled (same_by said_place same_place) r t

pub kind_settled : (κs : _) (a : _) (r t : Result Template Refusal) (s u : _) → kind.Post κs a r s → kind.Post κs a t u → r ≡ t
kind_settled κs a r t s u = settled (same_by said_template same_template) r t

pub p2pk_key_part_settled : (κs : _) (a : _) (r t : Bor (List ℕ)) (s u : _) → p2pk-key-part.Post κs a r s → p2pk-key-part.Post κs a t u → (r.now ≡ t.now) × (r.ref_ptr ≡ t.ref_ptr)
p2pk_key_part_settled κs a r t s u p q = (same_value p.bytes q.bytes, same_value p.lies q.lies)

pub redeem_part_settled : (κs : _) (a : _) (r t : Bor (List ℕ)) (s u : _) → redeem-part.Post κs a r s → redeem-part.Post κs a t u → (r.now ≡ t.now) × (r.ref_ptr ≡ t.ref_ptr)
redeem_part_settled κs a r t s u p q = (same_value p.bytes q.bytes, same_value p.lies q.lies)

-- the answer and the lent buffer
pub p2wpkh_script_code_settled : (κs : _) (a : _) (r t : Result (Option ℕ) Refusal) (s u : _) → p2wpkh-script-code.Post κs a r s → p2wpkh-script-code.Post κs a t u → (r ≡ t) × (s.1.0.now ≡ u.1.0.now)
p2wpkh_script_code_settled κs a r t s u p q = (settled same_answer r t p.0 q.0, same_value p.1 q.1)
