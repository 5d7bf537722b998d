-- 'Kind, first that fits'. Assumes nothing.
use Rattle.std.specs.Prelude.{◌≡◌, Bool, true, not, ◌&&◌, List, [], ◌∷◌, ◌++◌, ℕ}
use Rattle.std.specs.Prelude.{if◌then◌else◌}
use Rattle.fixed.specs.Fixed.{
  is_pay_to_pubkey_hash,
  is_pay_to_script_hash,
  is_witness_program,
  is_pay_to_witness_pubkey_hash,
  is_pay_to_witness_script_hash,
  is_pay_to_taproot,
  is_pay_to_anchor,
  is_pay_to_pubkey,
  is_op_return,
}
use Rattle.walked.specs.Walked.{is_multisig}

-- document 01's eleven kinds, in its order
pub data Kind : Type 0 where
  p2pkh : Kind
  p2sh : Kind
  p2wpkh : Kind
  p2wsh : Kind
  p2tr : Kind
  p2a : Kind
  witness : Kind
  p2pk : Kind
  multisig : Kind
  opreturn : Kind
  other : Kind

-- the test of each kind; a script that is nothing else is other
abbrev pub fits : Kind → List ℕ → Bool
fits p2pkh s = is_pay_to_pubkey_hash s
fits p2sh s = is_pay_to_script_hash s
fits p2wpkh s = is_pay_to_witness_pubkey_hash s
fits p2wsh s = is_pay_to_witness_script_hash s
fits p2tr s = is_pay_to_taproot s
fits p2a s = is_pay_to_anchor s
fits witness s = is_witness_program s
fits p2pk s = is_pay_to_pubkey s
fits multisig s = is_multisig s
fits opreturn s = is_op_return s
fits other s = true

-- in the order in which they are tried
abbrev pub kinds : List Kind
kinds = p2pkh ∷ p2sh ∷ p2wpkh ∷ p2wsh ∷ p2tr ∷ p2a ∷ witness ∷ p2pk ∷ multisig ∷ opreturn ∷ other ∷ []

-- the first of a list whose test holds
abbrev pub first_that_fits : List Kind → List ℕ → Kind
first_that_fits [] s = other
first_that_fits (k ∷ ks) s = if fits k s then k else first_that_fits ks s

-- 'Kind, first that fits: p2pkh, p2sh, p2wpkh, p2wsh, p2tr, p2a, witness, p2pk, multisig, opreturn, other'
unfoldable pub kind_of : List ℕ → Kind
kind_of s = first_that_fits kinds s

-- none of these fits
abbrev pub none_fits : List Kind → List ℕ → Bool
none_fits [] s = true
none_fits (k ∷ ks) s = not (fits k s) && none_fits ks s

-- where a kind that fits stands in a list of kinds: what is before it, none of which fits, and what is after it
pub record FirstFit (s : List ℕ) (k : Kind) (ks : List Kind) : Type 0 where
  pub before : List Kind
  pub after : List Kind
  pub whole : before ++ (k ∷ after) ≡ ks
  pub none_before : none_fits before s ≡ true
  pub it_fits : fits k s ≡ true
