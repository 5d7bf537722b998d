-- Worked examples of document 01, computed from the definitions. Assumes nothing.
use mathlib.Core.Path.{◌≡◌, refl}
use mathlib.Core.Bool.{true, false}
use mathlib.Core.List.{List, [], ◌∷◌, map}
use Prim.Native.Nat.{ℕ}
use Rattle.laws.specs.Said.{Said, answers}
use Rattle.script.specs.Script.{read_le, assign, sized, operand, get_script_op}
use Rattle.counts.specs.Count.{multisig_ops, sig_ops, while, get_sig_op_count, count_says}

abbrev W1 : List ℕ
W1 = []

abbrev W10 : List ℕ
W10 = 0x52 ∷ 0xae ∷ 0xae ∷ []

abbrev W11 : List ℕ
W11 = 0x52 ∷ 0xac ∷ 0xae ∷ []

abbrev cut : List ℕ
cut = 0xac ∷ 0x4c ∷ []

-- the accurate count, then the other
pub counts : map {B = Said ℕ × Said ℕ} (λ s. (count_says true s, count_says false s)) (W10 ∷ W11 ∷ cut ∷ W1 ∷ [])
    ≡ (answers 22, answers 40) ∷ (answers 21, answers 21) ∷ (answers 1, answers 1) ∷ (answers 0, answers 0) ∷ []
unfolding count_says get_sig_op_count while sig_ops multisig_ops get_script_op operand sized assign read_le
counts = refl
