-- What passes a chain of refusals passed each of its tests. Assumes nothing.
use mathlib.Core.Path.{◌≡◌, refl}
use mathlib.Core.Bool.{Bool, true, false, ◌||◌}
use mathlib.Core.List.{List}
use Rattle.std.specs.Prelude.{Option}
use Prim.Native.Nat.{ℕ, ◌≤◌}
use native.Mathlib.Omega.{arith}
use borrow.Author.Tests.{ltb-false}
use lib.Dec.{ltb}
use lib.ListN.{length}
use Rattle.std.specs.Prelude.{if◌then◌else◌}
use Rattle.laws.specs.Said.{Said, answers, refuses}
use Rattle.refusal.specs.Refusal.{limit}
use Rattle.building.specs.Lent.{not_last, builder_says, built_says}

pub passes : (b : Bool) (number : ℕ) (values : List ℕ) (x : Said (Unit {0})) → (if b then refuses number values else x) ≡ answers tt
    → (b ≡ false) × (x ≡ answers tt)
passes true number values x e = absurd (let z : ◌≡◌ {A = ℕ} 0 1 = cc in omega arith)
passes false number values x e = (refl, e)

pub built_fits : (size room : ℕ) → built_says size room ≡ answers tt → size ≤ room
unfolding built_says
built_fits size room e = ltb-false room size (passes (ltb room size) _ _ _ (passes (ltb limit size) _ _ _ e).1).0

pub neither : (a b : Bool) → (a || b) ≡ false → (a ≡ false) × (b ≡ false)
neither true b e = absurd (let z : ◌≡◌ {A = ℕ} 0 1 = cc in omega arith)
neither false b e = (refl, e)

-- what the tests of a good builder say
module _ (used : ℕ) (remembered : Option ℕ) (buffer : List ℕ) (good : builder_says used remembered buffer ≡ answers tt) where
  pub good_used : (used ≤ limit) × (used ≤ length buffer) × (not_last remembered used buffer ≡ false)
  unfolding builder_says
  good_used =
      let l = passes (ltb limit used) _ _ _ good in
      let n = neither (ltb (length buffer) used) (not_last remembered used buffer) (passes _ _ _ _ l.1).0 in
      (ltb-false limit used l.0, ltb-false (length buffer) used n.0, n.1)
