-- Worked examples of document 01, and figures that the Rust crate gives, computed from the definitions. Assumes nothing.
use mathlib.Core.Path.{◌≡◌, refl}
use mathlib.Core.List.{List, [], ◌∷◌, map}
use Prim.Native.Nat.{ℕ, ◌-◌, ◌^◌}
use Rattle.laws.specs.Said.{answers, refuses}
use Rattle.fixed.specs.Fixed.{is_witness_program, is_op_return}
use Rattle.dust.specs.Dust.{get_size_of_compact_size, dust_size, fee_says, dust_says, custom_says}

abbrev W1 : List ℕ
W1 = []

abbrev p2a : List ℕ
p2a = 0x51 ∷ 0x02 ∷ 0x4e ∷ 0x73 ∷ []

abbrev return : List ℕ
return = 0x6a ∷ []

pub dust : map dust_says (W1 ∷ p2a ∷ return ∷ []) ≡ answers 471 ∷ answers 240 ∷ answers 0 ∷ []
unfolding dust_says dust_size get_size_of_compact_size is_witness_program is_op_return
dust = refl

-- rates about the largest that are taken: for every script, and for the empty one
pub largest_rates : map (custom_says return) ((2 ^ 62 - 1) ∷ (2 ^ 62) ∷ []) ≡ answers 0 ∷ refuses 9 [] ∷ []
unfolding custom_says fee_says dust_size get_size_of_compact_size is_witness_program is_op_return
largest_rates = refl

pub largest_fee : map (custom_says W1) (29373796295715846 ∷ 29373796295715847 ∷ []) ≡ answers 18446744073709551 ∷ refuses 9 [] ∷ []
unfolding custom_says fee_says dust_size get_size_of_compact_size is_witness_program is_op_return
largest_fee = refl
