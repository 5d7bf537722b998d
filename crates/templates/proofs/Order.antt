-- `kind_of` is settled by the tests alone: the kind stands in document 01's order where it fits and none before it does. Assumes nothing.
use mathlib.Core.Path.{◌≡◌, refl, sym, ap, ◌∙◌}
use mathlib.Core.Bool.{Bool, true, false, not, ◌&&◌}
use mathlib.Core.List.{List, [], ◌∷◌, ◌++◌}
use Prim.Native.Nat.{ℕ}
use Rattle.std.specs.Prelude.{if◌then◌else◌}
use Rattle.templates.specs.Kind.{Kind, p2pkh, p2sh, p2wpkh, p2wsh, p2tr, p2a, witness, p2pk, multisig, opreturn, other, fits, kinds, first_that_fits, kind_of, none_fits, FirstFit}

unless : {k x : Kind} (j : Kind) (b c : Bool) → (c ≡ true → x ≡ k) → (not b && c) ≡ true → (if b then j else x) ≡ k
unless j true c f n = cc
unless j false c f n = f n

first_at : (s : List ℕ) (before : List Kind) (k : Kind) (after : List Kind) → fits k s ≡ true → none_fits before s ≡ true
    → first_that_fits (before ++ (k ∷ after)) s ≡ k
first_at s [] k after f n = rw f
first_at s (j ∷ js) k after f n = unless j (fits j s) (none_fits js s) (first_at s js k after f) n

-- a kind that fits, with none before it that does, is the script's kind
pub kind_if : (s : List ℕ) (before : List Kind) (k : Kind) (after : List Kind) → before ++ (k ∷ after) ≡ kinds → none_fits before s ≡ true → fits k s ≡ true
    → kind_of s ≡ k
unfolding kind_of
kind_if s before k after e n f = ap (λ ks. first_that_fits ks s) (sym e) ∙ first_at s before k after f n

stands : (s : List ℕ) (ks : List Kind) → FirstFit s (first_that_fits (ks ++ (other ∷ [])) s) (ks ++ (other ∷ []))
stands s [] = record { before = []; after = []; whole = refl; none_before = refl; it_fits = refl }
stands s (k ∷ ks) = pick (fits k s) refl (stands s ks)
  where
    pick : (b : Bool) → fits k s ≡ b → FirstFit s (first_that_fits (ks ++ (other ∷ [])) s) (ks ++ (other ∷ []))
        → FirstFit s (if b then k else first_that_fits (ks ++ (other ∷ [])) s) (k ∷ (ks ++ (other ∷ [])))
    pick true e r = record { before = []; after = ks ++ (other ∷ []); whole = refl; none_before = refl; it_fits = e }
    pick false e r =
        record { before = k ∷ r.before; after = r.after; whole = ap (λ l. k ∷ l) r.whole; none_before = rw e r.none_before; it_fits = r.it_fits }

-- a script's kind fits, and none before it does
pub kind_fits : (s : List ℕ) → FirstFit s (kind_of s) kinds
unfolding kind_of
kind_fits s = stands s (p2pkh ∷ p2sh ∷ p2wpkh ∷ p2wsh ∷ p2tr ∷ p2a ∷ witness ∷ p2pk ∷ multisig ∷ opreturn ∷ [])
