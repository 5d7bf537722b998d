-- The rows of the answers that the code has types of its own for, and that each row fits the least number of entries that its call names. Assumes nothing.
use Rattle.std.specs.Prelude.{List, ℕ, ◌+◌, ◌≤◌, Bool, length}
use Rattle.std.specs.Prelude.{Option, None, Some}
use Rattle.std.proofs.Common.{arith}
use Rattle.opcodes.specs.Opcode.{Sort, said_class}
use Rattle.opcodes.specs.Opcode as sort
use Rattle.opcodes.specs.declared.Class.{Class}
use Rattle.walked.specs.Walked.{Stretch, stretch}
use Rattle.walked.specs.declared.Place.{Place}
use Rattle.templates.specs.declared.Template.{Template}
use Rattle.templates.specs.Answer.{said_template}
use Rattle.templates.specs.Kind.{Kind, p2pkh, p2sh, p2wpkh, p2wsh, p2tr, p2a, witness, p2pk, multisig, opreturn, other}
use Rattle.hand.specs.Handed.{one, yes, maybe, two_of, sort_row, kind_row}

pub one_fits : (n : ℕ) → length (one n) ≤ 1
one_fits n = omega arith

pub yes_fits : (b : Bool) → length (yes b) ≤ 1
yes_fits b = omega arith

pub kinds_fit : (k : Kind) → length (kind_row k) ≤ 1
kinds_fit p2pkh = omega arith
kinds_fit p2sh = omega arith
kinds_fit p2wpkh = omega arith
kinds_fit p2wsh = omega arith
kinds_fit p2tr = omega arith
kinds_fit p2a = omega arith
kinds_fit witness = omega arith
kinds_fit p2pk = omega arith
kinds_fit multisig = omega arith
kinds_fit opreturn = omega arith
kinds_fit other = omega arith

pub sort_fits : (s : Sort) → length (sort_row s) ≤ 2
sort_fits (sort.push form) = omega arith
sort_fits sort.number = omega arith
sort_fits sort.plain = omega arith

pub two_fits : (s : Stretch) → length (two_of s) ≤ 2
two_fits (stretch start len) = omega arith

-- where bytes of a script lie
abbrev pub place_row : Place → List ℕ
place_row p = two_of (stretch p.start p.len)

pub place_fits : (p : Place) → length (place_row p) ≤ 2
place_fits p = two_fits (stretch p.start p.len)

-- the sort of an opcode byte
abbrev pub class_row : Class → List ℕ
class_row c = sort_row (said_class c)

pub class_fits : (c : Class) → length (class_row c) ≤ 2
class_fits c = sort_fits (said_class c)

-- a kind
abbrev pub template_row : Template → List ℕ
template_row t = kind_row (said_template t)

pub template_fits : (t : Template) → length (template_row t) ≤ 1
template_fits t = kinds_fit (said_template t)

pub maybe_fits : {A : Type 0} (row : A → List ℕ) (n : ℕ) → ((a : A) → length (row a) ≤ n) → (o : Option A) → length (maybe row o) ≤ 1 + n
maybe_fits row n f None = omega arith
maybe_fits row n f (Some a) = omega (arith, f a)
