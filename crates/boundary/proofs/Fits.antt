-- What a call says fits the number of entries that the call names, so that a slice with so many is never too short: a refusal of the walk has two values
-- at most, and any other one. Assumes nothing.
use mathlib.Core.Bool.{Bool, ◌&&◌, ◌||◌}
use mathlib.Core.List.{List, []}
use Rattle.std.specs.Prelude.{Option, None, Some}
use Prim.Native.Nat.{ℕ, zero, suc, ◌*◌, ◌-◌, ◌≤◌}
use native.Mathlib.Omega.{arith}
use lib.Dec.{ltb, leb, eqb}
use lib.IntN.{ℤ}
use lib.ListN.{length, take}
use Rattle.laws.specs.Said.{Said, answers, refuses, unless}
use Rattle.laws.specs.Buffer.{writes}
use Rattle.laws.proofs.Test.{by_test}
use Rattle.refusal.specs.Refusal.{limit, within_limit}
use Rattle.numbers.specs.ScriptNum.{serialize}
use Rattle.numbers.specs.Answer.{is_least, len_says, write_says, bool_says}
use Rattle.script.specs.Script.{ScriptOp, fails, reads, get_script_op, lacks}
use Rattle.script.specs.Walk.{Walked, end, found, not_minimal, cut_not_minimal, judged, walk_says, next_at}
use Rattle.script.specs.Run.{Run, continue, walk_for, walk_from, ending}
use Rattle.places.specs.Places.{places_of, positions_say}
use Rattle.fixed.specs.Fixed.{is_pay_to_witness_pubkey_hash, script_code}
use Rattle.templates.specs.Says.{as_some, judges, code_says}
use Rattle.counts.specs.Count.{count_says}
use Rattle.dust.specs.Dust.{most_amount, dust_size, fee_says, dust_says, custom_says}
use Rattle.asm.specs.Asm.{text_of, asm_len_says, asm_says}
use Rattle.witness.specs.Program.{wrong_v0, witness_bytes, witness_says}
use Rattle.screen.specs.Screen.{screen_of, inspect_says}
use Rattle.building.specs.Builder.{State, Call, push_opcode, push_slice, int_opcode, push_number, push_int, verify_form, push_verified, push_verify, takes_over}
use Rattle.building.specs.Lent.{not_last, builder_says, built_says, within, leaves, calls}
use Rattle.script.proofs.Step.{by_lack}
use Rattle.hand.specs.Handed.{Fits, Brief, one, yes, maybe, walked_row}
use Rattle.hand.specs.Row.{one_fits}
use Rattle.hand.proofs.Handing.{walked_fits}

brief_fits : {A : Type 0} (least : ℕ) (row : A → List ℕ) → ((a : A) → length (row a) ≤ least) → (said : Said A) → Brief least said → Fits least row said
brief_fits least row fits (answers a) h = fits a
brief_fits least row fits (refuses number values) h = h

unless_brief : {A B : Type 0} (least : ℕ) (first : Said A) (said : Said B) → Brief least first → Brief least said → Brief least (unless first said)
unless_brief least (answers a) said h k = k
unless_brief least (refuses number values) said h k = h

limit_fits : {A : Type 0} (least : ℕ) (row : A → List ℕ) (s : List ℕ) (said : Said A) → Fits least row said → Fits least row (within_limit s said)
limit_fits least row s said h = by_test (Fits least row) (ltb limit (length s)) (λ e. omega arith) (λ e. h)

-- ---- one value

writes_brief : (new : List ℕ) (room : ℕ) → Brief 1 (writes new room)
writes_brief new room = by_test (Brief 1) (leb (length new) room) (λ e. omega arith) (λ e. omega arith)

-- bb_write_name
pub writes_fits : (new : List ℕ) (room : ℕ) → Fits 1 one (writes new room)
writes_fits new room = brief_fits 1 one one_fits (writes new room) (writes_brief new room)

-- the templates, by the rows of their answers
pub judges_fit : {A : Type 0} (least : ℕ) (row : A → List ℕ) → ((a : A) → length (row a) ≤ least) → (f : List ℕ → A) (s : List ℕ) → Fits least row (judges f s)
unfolding judges
judges_fit least row fits f s = limit_fits least row s (answers (f s)) (fits (f s))

pub len_fits : (n : ℤ) → Fits 1 one (len_says n)
unfolding len_says
len_fits n = by_test (Fits 1 one) (is_least n) (λ e. omega arith) (λ e. omega arith)

pub write_fits : (n : ℤ) (room : ℕ) → Fits 1 one (write_says n room)
unfolding write_says
write_fits n room = by_test (Fits 1 one) (is_least n) (λ e. omega arith) (λ e. writes_fits (serialize n) room)

pub bool_fits : (v : List ℕ) → Fits 1 yes (bool_says v)
unfolding bool_says
bool_fits v = limit_fits 1 yes v (answers _) (omega arith)

pub count_fits : (accurate : Bool) (s : List ℕ) → Fits 1 one (count_says accurate s)
unfolding count_says
count_fits accurate s = limit_fits 1 one s (answers _) (omega arith)

pub dust_fits : (s : List ℕ) → Fits 1 one (dust_says s)
unfolding dust_says
dust_fits s = limit_fits 1 one s (answers _) (omega arith)

pub custom_fits : (s : List ℕ) (rate : ℕ) → Fits 1 one (custom_says s rate)
unfolding custom_says fee_says
custom_fits s rate =
    limit_fits 1 one s _
    (by_test (Fits 1 one) (ltb most_amount (rate * 4)) (λ e. omega arith)
    (λ e. by_test (Fits 1 one) (ltb most_amount (rate * 4 * dust_size s)) (λ e. omega arith) (λ e. omega arith)))

pub asm_len_fits : (s : List ℕ) → Fits 1 one (asm_len_says s)
unfolding asm_len_says
asm_len_fits s = limit_fits 1 one s (answers _) (omega arith)

pub asm_fits : (s : List ℕ) (room : ℕ) → Fits 1 one (asm_says s room)
unfolding asm_says
asm_fits s room = limit_fits 1 one s (writes (text_of s) room) (writes_fits (text_of s) room)

pub inspect_fits : (s : List ℕ) (room : ℕ) → Fits 1 one (inspect_says s room)
unfolding inspect_says
inspect_fits s room = writes_fits (screen_of s) room

pub witness_fits : (version : ℕ) (program : List ℕ) (room : ℕ) → Fits 1 one (witness_says version program room)
unfolding witness_says
witness_fits version program room =
    by_test (Fits 1 one) (ltb 16 version) (λ e. omega arith)
    (λ e. by_test (Fits 1 one) (ltb (length program) 2 || ltb 40 (length program)) (λ e. omega arith)
    (λ e. by_test (Fits 1 one) (wrong_v0 version (length program)) (λ e. omega arith) (λ e. writes_fits (witness_bytes version program) room)))

-- ---- a builder's refusal, behind the two numbers of its state

within_brief : (room : ℕ) (said : Said State) → Brief 1 said → Brief 1 (within room said)
unfolding built_says
within_brief room (answers st) h =
    unless_brief 1 (built_says (length st.bytes) room) (answers st)
    (by_test (Brief 1) (ltb limit (length st.bytes)) (λ e. omega arith)
    (λ e. by_test (Brief 1) (ltb room (length st.bytes)) (λ e. omega arith) (λ e. omega arith)))
    h
within_brief room (refuses number values) h = h

builder_brief : (used : ℕ) (remembered : Option ℕ) (buffer : List ℕ) → Brief 1 (builder_says used remembered buffer)
unfolding builder_says
builder_brief used remembered buffer =
    by_test (Brief 1) (ltb limit used) (λ e. omega arith)
    (λ e. by_test (Brief 1) (ltb (length buffer) used || not_last remembered used buffer) (λ e. omega arith) (λ e. omega arith))

leaves_brief : (said : Said State) (used : ℕ) (remembered : Option ℕ) (buffer : List ℕ) → Brief 1 said → Brief 1 (leaves said used remembered buffer).said
leaves_brief (answers st) used remembered buffer h = omega arith
leaves_brief (refuses number values) used remembered buffer h = h

-- a call whose own refusal is brief
pub calls_fit : (call : Call) → ((st : State) → Brief 1 (call st)) → (used : ℕ) (remembered : Option ℕ) (buffer : List ℕ)
    → Brief 1 (calls call used remembered buffer).said
unfolding calls
calls_fit call h used remembered buffer =
    let st : State = record { bytes = take used buffer; remembered = remembered } in
    leaves_brief (unless (builder_says used remembered buffer) (within (length buffer) (call st))) used remembered buffer
    (unless_brief 1 (builder_says used remembered buffer) (within (length buffer) (call st)) (builder_brief used remembered buffer)
    (within_brief (length buffer) (call st) (h st)))

-- .. is every one
pub opcode_brief : (code : ℕ) (st : State) → Brief 1 (push_opcode code st)
opcode_brief code st = omega arith

pub slice_brief : (body : List ℕ) (st : State) → Brief 1 (push_slice body st)
unfolding push_slice
slice_brief body st = omega arith

pub int_brief : (n : ℤ) (st : State) → Brief 1 (push_int n st)
unfolding push_int
int_brief n st = go (int_opcode n)
  where
    go : (o : Option ℕ) → Brief 1 (push_number o n st)
    go (Some code) = omega arith
    go None = by_test (Brief 1) (is_least n) (λ e. omega arith) (λ e. slice_brief (serialize n) st)

pub verify_brief : (st : State) → Brief 1 (push_verify st)
unfolding push_verify
verify_brief st = go (verify_form st.remembered)
  where
    go : (o : Option ℕ) → Brief 1 (push_verified o st)
    go (Some code) = omega arith
    go None = omega arith

pub start_brief : (st : State) → Brief 1 (takes_over st)
start_brief st = omega arith

-- ---- two values and more

-- bb_p2wpkh_script_code
pub code_fits : (s : List ℕ) (room : ℕ) → Fits 2 (maybe one) (code_says s room)
unfolding code_says
code_fits s room =
    limit_fits 2 (maybe one) s _
    (by_test (Fits 2 (maybe one)) (is_pay_to_witness_pubkey_hash s) (λ e. go (writes (script_code s) room) (writes_brief (script_code s) room)) (λ e. omega arith))
  where
    go : (said : Said ℕ) → Brief 1 said → Fits 2 (maybe one) (as_some said)
    go (answers n) h = omega arith
    go (refuses number values) h = omega arith

walk_brief : (minimal : Bool) (s : List ℕ) (at : ℕ) → Brief 2 (walk_says minimal s at)
unfolding walk_says
walk_brief minimal s at =
    limit_fits 2 (λ a. []) s _
    (by_test (Brief 2) (ltb (length s) at) (λ e. omega arith)
    (λ e. by_test (Brief 2) (eqb (length s) at) (λ e. omega arith) (λ e. go (get_script_op s at))))
  where
    go : (o : ScriptOp) → Brief 2 (judged minimal s at o)
    go fails = by_test (Brief 2) (minimal && cut_not_minimal s at) (λ e. omega arith) (λ e. by_lack (Brief 2) at (lacks s at) (λ m. omega arith) (λ m. omega arith))
    go (reads code vch pc) = by_test (Brief 2) (minimal && not_minimal code vch) (λ e. omega arith) (λ e. omega arith)

-- bb_next and bb_advance: one more for the place for the next call makes 6
pub walk_fits : (minimal : Bool) (s : List ℕ) (at : ℕ) → Fits 5 walked_row (walk_says minimal s at)
walk_fits minimal s at =
    brief_fits 5 walked_row walked_fits (walk_says minimal s at) (omega (arith, walk_brief minimal s at))

ending_brief : (minimal : Bool) (s : List ℕ) (n p : ℕ) → Brief 2 (ending (walk_for n minimal s p))
unfolding walk_for
ending_brief minimal s zero p = omega arith
ending_brief minimal s (suc n) p =
    go (walk_says minimal s p) (walk_for n minimal s (next_at minimal s p)) (walk_brief minimal s p) (ending_brief minimal s n (next_at minimal s p))
  where
    go : (said : Said Walked) (rest : Run) → Brief 2 said → Brief 2 (ending rest) → Brief 2 (ending (continue said rest))
    go (answers end) rest h k = omega arith
    go (answers (found i)) rest h k = k
    go (refuses number values) rest h k = h

pub positions_fit : (minimal : Bool) (s : List ℕ) (room : ℕ) → Fits 2 one (positions_say minimal s room)
unfolding positions_say walk_from
positions_fit minimal s room =
    brief_fits 2 one (λ n. omega arith) (positions_say minimal s room)
    (unless_brief 2 (ending (walk_from minimal s 0)) (writes (places_of minimal s) room) (ending_brief minimal s (suc (length s - 0)) 0)
    (omega (arith, writes_brief (places_of minimal s) room)))
