-- Each entry is settled: two outcomes that its contract permits for one input are equal: the number, the values and what is left in every other
-- slice that was lent. Assumes nothing.
use mathlib.Core.Path.{◌≡◌}
use Prim.Native.Nat.{ℕ}
use Rattle.laws.proofs.Settled.{same_value}
use Rattle.hand.proofs.Handing.{same_handed}
use Rattle.boundary.proofs.codes.bb_classify.Reads as bb-classify
use Rattle.boundary.proofs.codes.bb_decode_pushnum.Reads as bb-decode-pushnum
use Rattle.boundary.proofs.codes.bb_opcode_to_verify.Reads as bb-opcode-to-verify
use Rattle.boundary.proofs.codes.bb_name_len.Reads as bb-name-len
use Rattle.boundary.proofs.codes.bb_scriptint_len.Reads as bb-scriptint-len
use Rattle.boundary.proofs.codes.bb_read_scriptint.Reads as bb-read-scriptint
use Rattle.boundary.proofs.codes.bb_read_scriptint_non_minimal.Reads as bb-read-scriptint-non-minimal
use Rattle.boundary.proofs.codes.bb_read_scriptbool.Reads as bb-read-scriptbool
use Rattle.boundary.proofs.steps.bb_cursor_new.Reads as bb-cursor-new
use Rattle.boundary.proofs.steps.bb_next.Reads as bb-next
use Rattle.boundary.proofs.steps.bb_body.Reads as bb-body
use Rattle.boundary.proofs.steps.bb_advance.Reads as bb-advance
use Rattle.boundary.proofs.steps.bb_positions.Reads as bb-positions
use Rattle.boundary.proofs.judge.bb_is_p2sh.Reads as bb-is-p2sh
use Rattle.boundary.proofs.judge.bb_is_p2pkh.Reads as bb-is-p2pkh
use Rattle.boundary.proofs.judge.bb_is_witness_program.Reads as bb-is-witness-program
use Rattle.boundary.proofs.judge.bb_is_p2wpkh.Reads as bb-is-p2wpkh
use Rattle.boundary.proofs.judge.bb_is_p2wsh.Reads as bb-is-p2wsh
use Rattle.boundary.proofs.judge.bb_is_p2tr.Reads as bb-is-p2tr
use Rattle.boundary.proofs.judge.bb_is_p2a.Reads as bb-is-p2a
use Rattle.boundary.proofs.judge.bb_is_p2pk.Reads as bb-is-p2pk
use Rattle.boundary.proofs.judge.bb_is_multisig.Reads as bb-is-multisig
use Rattle.boundary.proofs.judge.bb_is_op_return.Reads as bb-is-op-return
use Rattle.boundary.proofs.judge.bb_is_push_only.Reads as bb-is-push-only
use Rattle.boundary.proofs.judge.bb_witness_version.Reads as bb-witness-version
use Rattle.boundary.proofs.judge.bb_p2pk_key.Reads as bb-p2pk-key
use Rattle.boundary.proofs.judge.bb_redeem_script.Reads as bb-redeem-script
use Rattle.boundary.proofs.judge.bb_p2pk_key_part.Reads as bb-p2pk-key-part
use Rattle.boundary.proofs.judge.bb_redeem_part.Reads as bb-redeem-part
use Rattle.boundary.proofs.judge.bb_kind.Reads as bb-kind
use Rattle.boundary.proofs.amounts.bb_count_sigops.Reads as bb-count-sigops
use Rattle.boundary.proofs.amounts.bb_count_sigops_legacy.Reads as bb-count-sigops-legacy
use Rattle.boundary.proofs.amounts.bb_minimal_non_dust.Reads as bb-minimal-non-dust
use Rattle.boundary.proofs.amounts.bb_minimal_non_dust_custom.Reads as bb-minimal-non-dust-custom
use Rattle.boundary.proofs.amounts.bb_asm_len.Reads as bb-asm-len
use Rattle.boundary.proofs.write.bb_write_name.Reads as bb-write-name
use Rattle.boundary.proofs.write.bb_write_scriptint.Reads as bb-write-scriptint
use Rattle.boundary.proofs.write.bb_p2wpkh_script_code.Reads as bb-p2wpkh-script-code
use Rattle.boundary.proofs.write.bb_write_asm.Reads as bb-write-asm
use Rattle.boundary.proofs.write.bb_witness_program.Reads as bb-witness-program
use Rattle.boundary.proofs.write.bb_inspect.Reads as bb-inspect
use Rattle.boundary.proofs.build.bb_builder_new.Reads as bb-builder-new
use Rattle.boundary.proofs.build.bb_builder_start.Reads as bb-builder-start
use Rattle.boundary.proofs.build.bb_builder_push_opcode.Reads as bb-builder-push-opcode
use Rattle.boundary.proofs.build.bb_builder_push_slice.Reads as bb-builder-push-slice
use Rattle.boundary.proofs.build.bb_builder_push_int.Reads as bb-builder-push-int
use Rattle.boundary.proofs.build.bb_builder_push_lock_time.Reads as bb-builder-push-lock-time
use Rattle.boundary.proofs.build.bb_builder_push_sequence.Reads as bb-builder-push-sequence
use Rattle.boundary.proofs.build.bb_builder_push_verify.Reads as bb-builder-push-verify
use Rattle.boundary.proofs.build.bb_builder_as_bytes.Reads as bb-builder-as-bytes

pub bb_classify_settled : (κs : _) (a : _) (r t : ℕ) (s u : _) → bb-classify.Post κs a r s → bb-classify.Post κs a t u
    → (r ≡ t) × (s.1.0.now ≡ u.1.0.now)
bb_classify_settled κs a r t s u p q = same_handed p q

pub bb_decode_pushnum_settled : (κs : _) (a : _) (r t : ℕ) (s u : _) → bb-decode-pushnum.Post κs a r s → bb-decode-pushnum.Post κs a t u
    → (r ≡ t) × (s.1.0.now ≡ u.1.0.now)
bb_decode_pushnum_settled κs a r t s u p q = same_handed p q

pub bb_opcode_to_verify_settled : (κs : _) (a : _) (r t : ℕ) (s u : _) → bb-opcode-to-verify.Post κs a r s → bb-opcode-to-verify.Post κs a t u
    → (r ≡ t) × (s.1.0.now ≡ u.1.0.now)
bb_opcode_to_verify_settled κs a r t s u p q = same_handed p q

pub bb_name_len_settled : (κs : _) (a : _) (r t : ℕ) (s u : _) → bb-name-len.Post κs a r s → bb-name-len.Post κs a t u
    → (r ≡ t) × (s.1.0.now ≡ u.1.0.now)
bb_name_len_settled κs a r t s u p q = same_handed p q

pub bb_scriptint_len_settled : (κs : _) (a : _) (r t : ℕ) (s u : _) → bb-scriptint-len.Post κs a r s → bb-scriptint-len.Post κs a t u
    → (r ≡ t) × (s.1.0.now ≡ u.1.0.now)
bb_scriptint_len_settled κs a r t s u p q = same_handed p q

pub bb_read_scriptint_settled : (κs : _) (a : _) (r t : ℕ) (s u : _) → bb-read-scriptint.Post κs a r s → bb-read-scriptint.Post κs a t u
    → (r ≡ t) × (s.1.0.now ≡ u.1.0.now)
bb_read_scriptint_settled κs a r t s u p q = same_handed p q

pub bb_read_scriptint_non_minimal_settled : (κs : _) (a : _) (r t : ℕ) (s u : _) → bb-read-scriptint-non-minimal.Post κs a r s → bb-read-scriptint-non-minimal.Post κs a t u
    → (r ≡ t) × (s.1.0.now ≡ u.1.0.now)
bb_read_scriptint_non_minimal_settled κs a r t s u p q = same_handed p q

pub bb_read_scriptbool_settled : (κs : _) (a : _) (r t : ℕ) (s u : _) → bb-read-scriptbool.Post κs a r s → bb-read-scriptbool.Post κs a t u
    → (r ≡ t) × (s.1.0.now ≡ u.1.0.now)
bb_read_scriptbool_settled κs a r t s u p q = same_handed p q

pub bb_cursor_new_settled : (κs : _) (a : _) (r t : ℕ) (s u : _) → bb-cursor-new.Post κs a r s → bb-cursor-new.Post κs a t u
    → (r ≡ t) × (s.0.now ≡ u.0.now)
bb_cursor_new_settled κs a r t s u p q = same_handed p q

pub bb_next_settled : (κs : _) (a : _) (r t : ℕ) (s u : _) → bb-next.Post κs a r s → bb-next.Post κs a t u
    → (r ≡ t) × (s.1.1.1.0.now ≡ u.1.1.1.0.now)
bb_next_settled κs a r t s u p q = same_handed p q

pub bb_body_settled : (κs : _) (a : _) (r t : ℕ) (s u : _) → bb-body.Post κs a r s → bb-body.Post κs a t u
    → (r ≡ t) × (s.1.1.1.0.now ≡ u.1.1.1.0.now)
bb_body_settled κs a r t s u p q = same_handed p q

pub bb_advance_settled : (κs : _) (a : _) (r t : ℕ) (s u : _) → bb-advance.Post κs a r s → bb-advance.Post κs a t u
    → (r ≡ t) × (s.1.1.1.0.now ≡ u.1.1.1.0.now) × (s.0.now ≡ u.0.now)
bb_advance_settled κs a r t s u p q = let h = same_handed p.0 q.0 in (h.0, h.1, same_value p.1 q.1)

pub bb_positions_settled : (κs : _) (a : _) (r t : ℕ) (s u : _) → bb-positions.Post κs a r s → bb-positions.Post κs a t u
    → (r ≡ t) × (s.1.1.1.0.now ≡ u.1.1.1.0.now) × (s.1.1.0.now ≡ u.1.1.0.now)
bb_positions_settled κs a r t s u p q = let h = same_handed p.0 q.0 in (h.0, h.1, same_value p.1 q.1)

pub bb_is_p2sh_settled : (κs : _) (a : _) (r t : ℕ) (s u : _) → bb-is-p2sh.Post κs a r s → bb-is-p2sh.Post κs a t u
    → (r ≡ t) × (s.1.0.now ≡ u.1.0.now)
bb_is_p2sh_settled κs a r t s u p q = same_handed p q

pub bb_is_p2pkh_settled : (κs : _) (a : _) (r t : ℕ) (s u : _) → bb-is-p2pkh.Post κs a r s → bb-is-p2pkh.Post κs a t u
    → (r ≡ t) × (s.1.0.now ≡ u.1.0.now)
bb_is_p2pkh_settled κs a r t s u p q = same_handed p q

pub bb_is_witness_program_settled : (κs : _) (a : _) (r t : ℕ) (s u : _) → bb-is-witness-program.Post κs a r s → bb-is-witness-program.Post κs a t u
    → (r ≡ t) × (s.1.0.now ≡ u.1.0.now)
bb_is_witness_program_settled κs a r t s u p q = same_handed p q

pub bb_is_p2wpkh_settled : (κs : _) (a : _) (r t : ℕ) (s u : _) → bb-is-p2wpkh.Post κs a r s → bb-is-p2wpkh.Post κs a t u
    → (r ≡ t) × (s.1.0.now ≡ u.1.0.now)
bb_is_p2wpkh_settled κs a r t s u p q = same_handed p q

pub bb_is_p2wsh_settled : (κs : _) (a : _) (r t : ℕ) (s u : _) → bb-is-p2wsh.Post κs a r s → bb-is-p2wsh.Post κs a t u
    → (r ≡ t) × (s.1.0.now ≡ u.1.0.now)
bb_is_p2wsh_settled κs a r t s u p q = same_handed p q

pub bb_is_p2tr_settled : (κs : _) (a : _) (r t : ℕ) (s u : _) → bb-is-p2tr.Post κs a r s → bb-is-p2tr.Post κs a t u
    → (r ≡ t) × (s.1.0.now ≡ u.1.0.now)
bb_is_p2tr_settled κs a r t s u p q = same_handed p q

pub bb_is_p2a_settled : (κs : _) (a : _) (r t : ℕ) (s u : _) → bb-is-p2a.Post κs a r s → bb-is-p2a.Post κs a t u
    → (r ≡ t) × (s.1.0.now ≡ u.1.0.now)
bb_is_p2a_settled κs a r t s u p q = same_handed p q

pub bb_is_p2pk_settled : (κs : _) (a : _) (r t : ℕ) (s u : _) → bb-is-p2pk.Post κs a r s → bb-is-p2pk.Post κs a t u
    → (r ≡ t) × (s.1.0.now ≡ u.1.0.now)
bb_is_p2pk_settled κs a r t s u p q = same_handed p q

pub bb_is_multisig_settled : (κs : _) (a : _) (r t : ℕ) (s u : _) → bb-is-multisig.Post κs a r s → bb-is-multisig.Post κs a t u
    → (r ≡ t) × (s.1.0.now ≡ u.1.0.now)
bb_is_multisig_settled κs a r t s u p q = same_handed p q

pub bb_is_op_return_settled : (κs : _) (a : _) (r t : ℕ) (s u : _) → bb-is-op-return.Post κs a r s → bb-is-op-return.Post κs a t u
    → (r ≡ t) × (s.1.0.now ≡ u.1.0.now)
bb_is_op_return_settled κs a r t s u p q = same_handed p q

pub bb_is_push_only_settled : (κs : _) (a : _) (r t : ℕ) (s u : _) → bb-is-push-only.Post κs a r s → bb-is-push-only.Post κs a t u
    → (r ≡ t) × (s.1.0.now ≡ u.1.0.now)
bb_is_push_only_settled κs a r t s u p q = same_handed p q

pub bb_witness_version_settled : (κs : _) (a : _) (r t : ℕ) (s u : _) → bb-witness-version.Post κs a r s → bb-witness-version.Post κs a t u
    → (r ≡ t) × (s.1.0.now ≡ u.1.0.now)
bb_witness_version_settled κs a r t s u p q = same_handed p q

pub bb_p2pk_key_settled : (κs : _) (a : _) (r t : ℕ) (s u : _) → bb-p2pk-key.Post κs a r s → bb-p2pk-key.Post κs a t u
    → (r ≡ t) × (s.1.0.now ≡ u.1.0.now)
bb_p2pk_key_settled κs a r t s u p q = same_handed p q

pub bb_redeem_script_settled : (κs : _) (a : _) (r t : ℕ) (s u : _) → bb-redeem-script.Post κs a r s → bb-redeem-script.Post κs a t u
    → (r ≡ t) × (s.1.0.now ≡ u.1.0.now)
bb_redeem_script_settled κs a r t s u p q = same_handed p q

pub bb_p2pk_key_part_settled : (κs : _) (a : _) (r t : ℕ) (s u : _) → bb-p2pk-key-part.Post κs a r s → bb-p2pk-key-part.Post κs a t u
    → (r ≡ t) × (s.1.0.now ≡ u.1.0.now)
bb_p2pk_key_part_settled κs a r t s u p q = same_handed p q

pub bb_redeem_part_settled : (κs : _) (a : _) (r t : ℕ) (s u : _) → bb-redeem-part.Post κs a r s → bb-redeem-part.Post κs a t u
    → (r ≡ t) × (s.1.0.now ≡ u.1.0.now)
bb_redeem_part_settled κs a r t s u p q = same_handed p q

pub bb_kind_settled : (κs : _) (a : _) (r t : ℕ) (s u : _) → bb-kind.Post κs a r s → bb-kind.Post κs a t u
    → (r ≡ t) × (s.1.0.now ≡ u.1.0.now)
bb_kind_settled κs a r t s u p q = same_handed p q

pub bb_count_sigops_settled : (κs : _) (a : _) (r t : ℕ) (s u : _) → bb-count-sigops.Post κs a r s → bb-count-sigops.Post κs a t u
    → (r ≡ t) × (s.1.0.now ≡ u.1.0.now)
bb_count_sigops_settled κs a r t s u p q = same_handed p q

pub bb_count_sigops_legacy_settled : (κs : _) (a : _) (r t : ℕ) (s u : _) → bb-count-sigops-legacy.Post κs a r s → bb-count-sigops-legacy.Post κs a t u
    → (r ≡ t) × (s.1.0.now ≡ u.1.0.now)
bb_count_sigops_legacy_settled κs a r t s u p q = same_handed p q

pub bb_minimal_non_dust_settled : (κs : _) (a : _) (r t : ℕ) (s u : _) → bb-minimal-non-dust.Post κs a r s → bb-minimal-non-dust.Post κs a t u
    → (r ≡ t) × (s.1.0.now ≡ u.1.0.now)
bb_minimal_non_dust_settled κs a r t s u p q = same_handed p q

pub bb_minimal_non_dust_custom_settled : (κs : _) (a : _) (r t : ℕ) (s u : _) → bb-minimal-non-dust-custom.Post κs a r s → bb-minimal-non-dust-custom.Post κs a t u
    → (r ≡ t) × (s.1.1.0.now ≡ u.1.1.0.now)
bb_minimal_non_dust_custom_settled κs a r t s u p q = same_handed p q

pub bb_asm_len_settled : (κs : _) (a : _) (r t : ℕ) (s u : _) → bb-asm-len.Post κs a r s → bb-asm-len.Post κs a t u
    → (r ≡ t) × (s.1.0.now ≡ u.1.0.now)
bb_asm_len_settled κs a r t s u p q = same_handed p q

pub bb_write_name_settled : (κs : _) (a : _) (r t : ℕ) (s u : _) → bb-write-name.Post κs a r s → bb-write-name.Post κs a t u
    → (r ≡ t) × (s.1.1.0.now ≡ u.1.1.0.now) × (s.1.0.now ≡ u.1.0.now)
bb_write_name_settled κs a r t s u p q = let h = same_handed p.0 q.0 in (h.0, h.1, same_value p.1 q.1)

pub bb_write_scriptint_settled : (κs : _) (a : _) (r t : ℕ) (s u : _) → bb-write-scriptint.Post κs a r s → bb-write-scriptint.Post κs a t u
    → (r ≡ t) × (s.1.1.0.now ≡ u.1.1.0.now) × (s.1.0.now ≡ u.1.0.now)
bb_write_scriptint_settled κs a r t s u p q = let h = same_handed p.0 q.0 in (h.0, h.1, same_value p.1 q.1)

pub bb_p2wpkh_script_code_settled : (κs : _) (a : _) (r t : ℕ) (s u : _) → bb-p2wpkh-script-code.Post κs a r s → bb-p2wpkh-script-code.Post κs a t u
    → (r ≡ t) × (s.1.1.0.now ≡ u.1.1.0.now) × (s.1.0.now ≡ u.1.0.now)
bb_p2wpkh_script_code_settled κs a r t s u p q = let h = same_handed p.0 q.0 in (h.0, h.1, same_value p.1 q.1)

pub bb_write_asm_settled : (κs : _) (a : _) (r t : ℕ) (s u : _) → bb-write-asm.Post κs a r s → bb-write-asm.Post κs a t u
    → (r ≡ t) × (s.1.1.0.now ≡ u.1.1.0.now) × (s.1.0.now ≡ u.1.0.now)
bb_write_asm_settled κs a r t s u p q = let h = same_handed p.0 q.0 in (h.0, h.1, same_value p.1 q.1)

pub bb_witness_program_settled : (κs : _) (a : _) (r t : ℕ) (s u : _) → bb-witness-program.Post κs a r s → bb-witness-program.Post κs a t u
    → (r ≡ t) × (s.1.1.1.0.now ≡ u.1.1.1.0.now) × (s.1.1.0.now ≡ u.1.1.0.now)
bb_witness_program_settled κs a r t s u p q = let h = same_handed p.0 q.0 in (h.0, h.1, same_value p.1 q.1)

pub bb_inspect_settled : (κs : _) (a : _) (r t : ℕ) (s u : _) → bb-inspect.Post κs a r s → bb-inspect.Post κs a t u
    → (r ≡ t) × (s.1.1.0.now ≡ u.1.1.0.now) × (s.1.0.now ≡ u.1.0.now)
bb_inspect_settled κs a r t s u p q = let h = same_handed p.0 q.0 in (h.0, h.1, same_value p.1 q.1)

pub bb_builder_new_settled : (κs : _) (a : _) (r t : ℕ) (s u : _) → bb-builder-new.Post κs a r s → bb-builder-new.Post κs a t u
    → (r ≡ t) × (s.0.now ≡ u.0.now)
bb_builder_new_settled κs a r t s u p q = same_handed p q

pub bb_builder_start_settled : (κs : _) (a : _) (r t : ℕ) (s u : _) → bb-builder-start.Post κs a r s → bb-builder-start.Post κs a t u
    → (r ≡ t) × (s.1.1.0.now ≡ u.1.1.0.now)
bb_builder_start_settled κs a r t s u p q = same_handed p q

pub bb_builder_push_opcode_settled : (κs : _) (a : _) (r t : ℕ) (s u : _) → bb-builder-push-opcode.Post κs a r s → bb-builder-push-opcode.Post κs a t u
    → (r ≡ t) × (s.1.1.1.1.0.now ≡ u.1.1.1.1.0.now) × (s.1.1.0.now ≡ u.1.1.0.now)
bb_builder_push_opcode_settled κs a r t s u p q = let h = same_handed p.0 q.0 in (h.0, h.1, same_value p.1 q.1)

pub bb_builder_push_slice_settled : (κs : _) (a : _) (r t : ℕ) (s u : _) → bb-builder-push-slice.Post κs a r s → bb-builder-push-slice.Post κs a t u
    → (r ≡ t) × (s.1.1.1.1.0.now ≡ u.1.1.1.1.0.now) × (s.1.1.0.now ≡ u.1.1.0.now)
bb_builder_push_slice_settled κs a r t s u p q = let h = same_handed p.0 q.0 in (h.0, h.1, same_value p.1 q.1)

pub bb_builder_push_int_settled : (κs : _) (a : _) (r t : ℕ) (s u : _) → bb-builder-push-int.Post κs a r s → bb-builder-push-int.Post κs a t u
    → (r ≡ t) × (s.1.1.1.1.0.now ≡ u.1.1.1.1.0.now) × (s.1.1.0.now ≡ u.1.1.0.now)
bb_builder_push_int_settled κs a r t s u p q = let h = same_handed p.0 q.0 in (h.0, h.1, same_value p.1 q.1)

pub bb_builder_push_lock_time_settled : (κs : _) (a : _) (r t : ℕ) (s u : _) → bb-builder-push-lock-time.Post κs a r s → bb-builder-push-lock-time.Post κs a t u
    → (r ≡ t) × (s.1.1.1.1.0.now ≡ u.1.1.1.1.0.now) × (s.1.1.0.now ≡ u.1.1.0.now)
bb_builder_push_lock_time_settled κs a r t s u p q = let h = same_handed p.0 q.0 in (h.0, h.1, same_value p.1 q.1)

pub bb_builder_push_sequence_settled : (κs : _) (a : _) (r t : ℕ) (s u : _) → bb-builder-push-sequence.Post κs a r s → bb-builder-push-sequence.Post κs a t u
    → (r ≡ t) × (s.1.1.1.1.0.now ≡ u.1.1.1.1.0.now) × (s.1.1.0.now ≡ u.1.1.0.now)
bb_builder_push_sequence_settled κs a r t s u p q = let h = same_handed p.0 q.0 in (h.0, h.1, same_value p.1 q.1)

pub bb_builder_push_verify_settled : (κs : _) (a : _) (r t : ℕ) (s u : _) → bb-builder-push-verify.Post κs a r s → bb-builder-push-verify.Post κs a t u
    → (r ≡ t) × (s.1.1.1.0.now ≡ u.1.1.1.0.now) × (s.1.1.0.now ≡ u.1.1.0.now)
bb_builder_push_verify_settled κs a r t s u p q = let h = same_handed p.0 q.0 in (h.0, h.1, same_value p.1 q.1)

pub bb_builder_as_bytes_settled : (κs : _) (a : _) (r t : ℕ) (s u : _) → bb-builder-as-bytes.Post κs a r s → bb-builder-as-bytes.Post κs a t u
    → (r ≡ t) × (s.1.1.1.0.now ≡ u.1.1.1.0.now)
bb_builder_as_bytes_settled κs a r t s u p q = same_handed p q
