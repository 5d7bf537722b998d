-- What is answered as place and length lies within the script. Assumes nothing.
use mathlib.Core.Path.{◌≡◌}
use mathlib.Core.Logic.{⊎_elim}
use mathlib.Core.Bool.{Bool, true, false, ◌&&◌}
use mathlib.Core.List.{List}
use Rattle.std.specs.Prelude.{Option, None, Some}
use Prim.Native.Nat.{ℕ, zero, suc, ◌+◌, ◌-◌, ◌≤◌}
use native.Mathlib.Omega.{arith}
use borrow.Author.Tests.{eqb-true}
use lib.Dec.{ltb, eqb}
use lib.ListN.{length, get_or}
use Rattle.laws.specs.Said.{Said, answers, refuses}
use Rattle.laws.proofs.Test.{by_test}
use Rattle.refusal.specs.Refusal.{limit}
use Rattle.script.specs.Walk.{Walked, end, found, opcode, push, walk_says, next_at}
use Rattle.script.specs.Run.{continue, walk_for, walk_from, items, ending}
use Rattle.script.proofs.Good.{Good, good}
use Rattle.fixed.specs.Fixed.{is_key_of, is_pay_to_pubkey}
use Rattle.walked.specs.Walked.{Stretch, stretch, unrefused, every, is_push, last_body, redeem_script}
use Rattle.templates.specs.Says.{judges, pubkey_of, start_of, len_of}
use Rattle.laws.proofs.Test.{and_left, either}

module _ (s : List ℕ) where
  abbrev Within : Option Stretch → Type 0
  Within None = Unit {0}
  Within (Some (stretch start len)) = start + len ≤ length s

  abbrev Inside : Said (Option Stretch) → Type 0
  Inside a = start_of a + len_of a ≤ length s

  answered : (f : List ℕ → Option Stretch) → Within (f s) → Inside (judges f s)
  unfolding judges
  answered f w = by_test Inside (ltb limit (length s)) (λ e. omega arith) (λ e. go (f s) w)
    where
      go : (o : Option Stretch) → Within o → Inside (answers o)
      go None w = omega arith
      go (Some (stretch start len)) w = w

  -- the key
  key_length : (size : ℕ) → is_key_of size s ≡ true → length s ≡ size + 2
  unfolding is_key_of
  key_length size e =
      let n : Bool = eqb (length s) (size + 2) in
      let a : Bool = eqb (get_or s 0 0) size in
      eqb-true (length s) (size + 2) (and_left n a (and_left (n && a) (eqb (get_or s (size + 1) 0) 0xac) e))

  pub key_long : is_pay_to_pubkey s ≡ true → 35 ≤ length s
  unfolding is_pay_to_pubkey
  key_long e =
      ⊎_elim (λ t. omega (arith, key_length 65 t)) (λ t. omega (arith, key_length 33 t)) (either (is_key_of 65 s) (is_key_of 33 s) e)

  pub key_inside : Inside (judges pubkey_of s)
  unfolding pubkey_of
  key_inside = answered pubkey_of (by_test Within (is_pay_to_pubkey s) (λ e. omega (arith, key_long e)) (λ e. tt))

  -- the redeem script: every body that the walk gives stands whole in the script
  bodies : (n p : ℕ) (before : Option Stretch) → Within before → Within (last_body before (items (walk_for n false s p)))
  unfolding walk_for
  bodies zero p before h = h
  bodies (suc n) p before h = go (walk_says false s p) (good false s p) (bodies n (next_at false s p))
    where
      go : (a : Said Walked) → Good false s p a
          → ((o : Option Stretch) → Within o → Within (last_body o (items (walk_for n false s (next_at false s p)))))
          → Within (last_body before (items (continue a (walk_for n false s (next_at false s p)))))
      go (answers end) g rest = h
      go (answers (found (opcode place code))) g rest = rest None tt
      go (answers (found (push place form body len))) g rest = rest (Some (stretch body len)) g.fits
      go (refuses number values) g rest = h

  pub redeem_inside : Inside (judges redeem_script s)
  unfolding redeem_script walk_from
  redeem_inside =
      answered redeem_script
      (by_test Within (unrefused (ending (walk_from false s 0)) && every is_push (items (walk_from false s 0))) (λ e. bodies (suc (length s - 0)) 0 None tt) (λ e. tt))
