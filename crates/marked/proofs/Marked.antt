-- W1 to W12 and the inspector's example as one test: the checker computes the table's first column from the definitions, and finds the second. Assumes nothing.
use mathlib.Core.Path.{◌≡◌, refl}
use Rattle.pool.specs.Text.{decimal, digits}
use Rattle.pool.specs.Names.{name_of}
use Rattle.script.specs.Script.{read_le, assign, sized, operand, get_script_op, assign_lacks, sized_lacks, operand_lacks, lacks, check_minimal_push}
use Rattle.script.specs.Walk.{not_minimal, says_less, cut_not_minimal, walk_says, next_at}
use Rattle.script.specs.Calls.{position}
use Rattle.script.specs.Run.{walk_for, walk_from}
use Rattle.numbers.specs.ScriptNum.{low_bytes, serialize, set_vch, non_minimal, script_num}
use Rattle.counts.specs.Count.{multisig_ops, sig_ops, while, get_sig_op_count, count_says}
use Rattle.dust.specs.Dust.{get_size_of_compact_size, dust_size, dust_says}
use Rattle.fixed.specs.Fixed.{is_pay_to_script_hash, is_pay_to_pubkey_hash, is_program_of, is_pay_to_anchor, is_key_of, is_pay_to_pubkey, is_op_return, is_witness_program}
use Rattle.walked.specs.Walked.{is_multisig}
use Rattle.templates.specs.Kind.{kind_of}
use Rattle.asm.specs.Asm.{
  hex,
  opcode_text,
  data_text,
  space_at,
  data_at,
  data_len,
  body_text,
  text_at,
  next_place,
  text_for,
  text_from,
  text_of,
}
use Rattle.screen.specs.Screen.{lines_of, screen_of}
use Rattle.building.specs.Builder.{push_verify}
use Rattle.building.specs.Lent.{builder_says, built_says, calls}
use Rattle.marked.specs.Table.{computed, paper}

pub marked : computed ≡ paper
unfolding
    is_witness_program decimal digits name_of read_le assign sized operand get_script_op assign_lacks sized_lacks operand_lacks lacks check_minimal_push not_minimal says_less
    cut_not_minimal walk_says next_at position walk_for walk_from low_bytes serialize set_vch non_minimal script_num multisig_ops sig_ops
    while get_sig_op_count count_says get_size_of_compact_size dust_size dust_says is_pay_to_script_hash is_pay_to_pubkey_hash is_program_of
    is_pay_to_anchor is_key_of is_pay_to_pubkey is_op_return is_multisig kind_of hex opcode_text data_text space_at data_at data_len body_text text_at
    next_place text_for text_from text_of lines_of screen_of push_verify builder_says built_says calls
marked = refl
