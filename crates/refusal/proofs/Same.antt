-- Answers that say the same are the same: number and values give a refusal back. Assumes nothing.
use mathlib.Core.Path.{◌≡◌, refl, sym, ap, ap₂, ◌∙◌}
use mathlib.Core.List.{List, [], ◌∷◌}
use Prim.Native.Nat.{ℕ}
use lib.Dec.{eqb}
use lib.ListN.{get_or}
use Rattle.std.specs.Prelude.{if◌then◌else◌, Result, Ok, Err}
use Rattle.refusal.specs.Refusal.{number_of, values_of, said_refusal}
use Rattle.laws.specs.Said.{answers}
use Rattle.std.specs.Result.{result_unwrap_or}
use Rattle.refusal.specs.Answer.{said_value, said, said_by}
use Rattle.refusal.specs.declared.Value.{Value}
use Rattle.refusal.specs.declared.Value.TheVariants.{Is, Both, Nothing}
use Rattle.refusal.specs.declared.Refusal.{Refusal}
use Rattle.refusal.specs.declared.Refusal.TheVariants.{
  TooLong,
  NonMinimal,
  NumberTooLong,
  NumberNotMinimal,
  NumberOutOfRange,
  NoRoom,
  BadCursor,
  FeeTooLarge,
  ProgramLength,
  ProgramLengthV0,
  BadVersion,
  BadBuilder,
  LengthCut,
  BodyCut,
}

-- the refusal that a number and its values name
abbrev named : ℕ → List ℕ → Refusal
named n v =
    if eqb n 1 then TooLong
    else if eqb n 2 then NonMinimal (get_or v 0 0)
    else if eqb n 4 then NumberTooLong
    else if eqb n 5 then NumberNotMinimal
    else if eqb n 6 then NumberOutOfRange
    else if eqb n 7 then NoRoom (get_or v 0 0)
    else if eqb n 8 then BadCursor
    else if eqb n 9 then FeeTooLarge
    else if eqb n 10 then ProgramLength
    else if eqb n 11 then ProgramLengthV0
    else if eqb n 12 then BadVersion
    else if eqb n 13 then BadBuilder
    else if eqb n 14 then LengthCut (get_or v 0 0) (get_or v 1 0)
    else BodyCut (get_or v 0 0) (get_or v 1 0)

back : (r : Refusal) → named (number_of r) (values_of r) ≡ r
back TooLong = refl
back (NonMinimal place) = refl
back NumberTooLong = refl
back NumberNotMinimal = refl
back NumberOutOfRange = refl
back (NoRoom needed) = refl
back BadCursor = refl
back FeeTooLarge = refl
back ProgramLength = refl
back ProgramLengthV0 = refl
back BadVersion = refl
back BadBuilder = refl
back (LengthCut place missing) = refl
back (BodyCut place missing) = refl

by_name : (r t : Refusal) → number_of r ≡ number_of t → values_of r ≡ values_of t → r ≡ t
by_name r t p q = sym (back r) ∙ ap₂ named p q ∙ back t

-- for the answers of every crate: two refusals that say the same are the same
pub same_refusal : {A : Type 0} (r t : Refusal) → said_refusal {A = A} r ≡ said_refusal t → r ≡ t
same_refusal r t e = by_name r t (cc) (cc)

pub same_said : (a b : Value) → said_value a ≡ said_value b → a ≡ b
same_said (Is n) (Is m) e = cc
same_said (Is n) (Both m q) e = let z : ◌≡◌ {A = List ℕ} [] (q ∷ []) = cc in cc
same_said (Is n) Nothing e = cc
same_said (Both n p) (Is m) e = let z : ◌≡◌ {A = List ℕ} (p ∷ []) [] = cc in cc
same_said (Both n p) (Both m q) e = cc
same_said (Both n p) Nothing e = cc
same_said Nothing (Is m) e = cc
same_said Nothing (Both m q) e = cc
same_said Nothing Nothing e = refl

-- .. and so are two answers, where what is told of them is
pub same_by : {A B : Type 0} (f : A → B) → ((x y : A) → f x ≡ f y → x ≡ y) → (a b : Result A Refusal) → said_by f a ≡ said_by f b → a ≡ b
same_by f same (Ok x) (Ok y) e = ap Ok (same x y (cc))
same_by f same (Ok x) (Err t) e = cc
same_by f same (Err r) (Ok y) e = cc
same_by f same (Err r) (Err t) e = ap Err (same_refusal r t e)

pub same_answer : {A : Type 0} (a b : Result A Refusal) → said a ≡ said b → a ≡ b
same_answer (Ok x) (Ok y) e = cc
same_answer (Ok x) (Err t) e = cc
same_answer (Err r) (Ok y) e = cc
same_answer (Err r) (Err t) e = ap Err (same_refusal r t e)

-- an answer that is known is the one that is handed out, whatever stands in for a refusal
pub told_by : {A B : Type 0} (f : A → B) (r : Result A Refusal) (d : A) {x : B} → said_by f r ≡ answers x → f (result_unwrap_or r d) ≡ x
told_by f (Ok a) d e = cc
told_by f (Err r) d e = cc

pub told : {A : Type 0} (r : Result A Refusal) (d : A) {x : A} → said r ≡ answers x → result_unwrap_or r d ≡ x
told (Ok a) d e = cc
told (Err r) d e = cc
