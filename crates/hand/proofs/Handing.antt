-- How an answer is handed over: the slice is too short, or it has room and what is said is an answer or a refusal. Assumes nothing.
use mathlib.Core.Path.{◌≡◌, refl, sym, ap, ◌∙◌}
use mathlib.Core.Logic.{⊎_elim}
use mathlib.Core.Bool.{or-true}
use mathlib.Core.List.{List, [], ◌∷◌, ◌++◌}
use Rattle.std.specs.Prelude.{Option, None, Some, Result, Ok, Err}
use Prim.Native.Nat.{ℕ, suc, ◌+◌, ◌≤◌, ◌<◌}
use native.Mathlib.Omega.{arith}
use borrow.Author.Tests.{lt-ltb, le-ltb}
use lib.Dec.{ltb}
use lib.Seq.{sets, set_out}
use lib.IntN.{ℤ}
use lib.ListN.{length, drop, set}
use Rattle.std.specs.Prelude.{if◌then◌else◌}
use Rattle.laws.specs.Said.{Said, answers, refuses}
use Rattle.refusal.specs.Refusal.{said_refusal}
use Rattle.refusal.specs.Answer.{said, said_by}
use Rattle.refusal.specs.Refusal as refusals
use Rattle.refusal.specs.declared.Refusal.{Refusal}
use Rattle.refusal.specs.declared.Refusal.TheVariants.{
  TooLong,
  NonMinimal,
  NumberTooLong,
  NumberNotMinimal,
  NumberOutOfRange,
  NoRoom,
  BadCursor,
  FeeTooLarge,
  ProgramLength,
  ProgramLengthV0,
  BadVersion,
  BadBuilder,
  LengthCut,
  BodyCut,
}
use Rattle.script.specs.Walk.{Walked, end, found, opcode, push}
use Rattle.walked.specs.Walked.{stretch}
use Rattle.walked.specs.Answer.{said_place}
use Rattle.walked.specs.declared.Place.{Place}
use Rattle.building.specs.Lent.{Outcome}
use Rattle.hand.specs.Handed.{Handed, handed, SHORT_VALUES, number_said, values_said, into, says, gives, reads, steps, builds, maybe, two_of, walked_row, remembered_as}
use Rattle.laws.proofs.Test.{lt_or_le}
use Rattle.laws.proofs.Stored.{stored_front}

-- ---- a row, and a slice

-- A slice with fewer entries than the call names is too short, whatever the row is.
pub short : {E : Type 0} {least : ℕ} (number : ℕ) (row old : List E) → length old < least → handed SHORT_VALUES old ≡ into least number row old
short {least = least} number row old h = rw (lt-ltb (length old) least h) refl

-- So is one with fewer entries than the row has values.
pub lacking : {E : Type 0} (least number : ℕ) (row old : List E) → length old < length row → handed SHORT_VALUES old ≡ into least number row old
lacking least number row old h = rw (lt-ltb (length old) (length row) h, or-true) refl

-- With room for the row and for the least number all of the row is stored, from the front on.
pub roomy : {E : Type 0} {least number r : ℕ} {row v new : List E} (old : List E) → least ≤ length old → length v ≤ length old → number ≡ r → row ≡ v
    → new ≡ sets old 0 v → handed r new ≡ into least number row old
roomy {least = least} {v = v} old h k e f g =
    rw (le-ltb (length old) least h, f, le-ltb (length old) (length v) k, e, g, stored_front v old k) refl

-- From behind the slice's end on nothing is stored.
pub stored_out : (l : List ℕ) (i : ℕ) (w : List ℕ) → length l ≤ i → sets l i w ≡ l
stored_out l i [] h = refl
stored_out l i (a ∷ w) h = ap (λ m. sets m (suc i) w) (set_out l i a h) ∙ stored_out l (suc i) w (omega arith)

-- .. whatever it is.
pub out_alike : {new : List ℕ} (l : List ℕ) (i : ℕ) (v w : List ℕ) → length l ≤ i → new ≡ sets l i v → new ≡ sets l i w
out_alike l i v w h e = e ∙ stored_out l i v h ∙ sym (stored_out l i w h)

-- Of two least numbers that the slice has room for, either may be named.
pub least_as : {E : Type 0} (least more number : ℕ) (row old : List E) → least ≤ length old → more ≤ length old
    → into least number row old ≡ into more number row old
least_as least more number row old h k = rw (le-ltb (length old) least h, le-ltb (length old) more k) refl

-- Where the row fits the least number, that number alone decides.
pub least_decides : {E : Type 0} (least number : ℕ) (row old : List E) → length row ≤ least
    → into least number row old ≡ (if ltb (length old) least then handed SHORT_VALUES old else handed number (row ++ drop (length row) old))
least_decides least number row old h =
    ⊎_elim
    (λ (g : length old < least). rw (lt-ltb (length old) least g) refl)
    (λ (g : least ≤ length old). rw (le-ltb (length old) least g, le-ltb (length old) (length row) (omega arith)) refl)
    (lt_or_le (length old) least)

-- ---- how long the rows are

-- A refusal has two values at most.
pub few : (why : Refusal) → length (refusals.values_of why) ≤ 2
few TooLong = omega arith
few (NonMinimal place) = omega arith
few NumberTooLong = omega arith
few NumberNotMinimal = omega arith
few NumberOutOfRange = omega arith
few (NoRoom needed) = omega arith
few BadCursor = omega arith
few FeeTooLarge = omega arith
few ProgramLength = omega arith
few ProgramLengthV0 = omega arith
few BadVersion = omega arith
few BadBuilder = omega arith
few (LengthCut place missing) = omega arith
few (BodyCut place missing) = omega arith

-- What the walk found takes five entries at most, and the place for the next call one more.
pub walked_fits : (w : Walked) → length (walked_row w) ≤ 5
walked_fits end = omega arith
walked_fits (found (opcode place code)) = omega arith
walked_fits (found (push place form body len)) = omega arith

-- No refusal has the number that a slice which is too short has.
pub number_apart : (why : Refusal) → refusals.number_of why < SHORT_VALUES
number_apart TooLong = omega arith
number_apart (NonMinimal place) = omega arith
number_apart NumberTooLong = omega arith
number_apart NumberNotMinimal = omega arith
number_apart NumberOutOfRange = omega arith
number_apart (NoRoom needed) = omega arith
number_apart BadCursor = omega arith
number_apart FeeTooLarge = omega arith
number_apart ProgramLength = omega arith
number_apart ProgramLengthV0 = omega arith
number_apart BadVersion = omega arith
number_apart BadBuilder = omega arith
number_apart (LengthCut place missing) = omega arith
number_apart (BodyCut place missing) = omega arith

-- ---- what is said, and a slice

module _ {A : Type 0} {least : ℕ} (row : A → List ℕ) (said : Said A) (old : List ℕ) where
  pub says_short : length old < least → handed SHORT_VALUES old ≡ says least row said old
  unfolding says
  says_short h = short (number_said said) (values_said row said) old h

  pub says_row : {x : A} {new : List ℕ} → ((x : A) → length (row x) ≤ least) → least ≤ length old → said ≡ answers x → new ≡ sets old 0 (row x)
      → handed 0 new ≡ says least row said old
  unfolding says
  says_row {x} fits h e g = roomy old h (omega (arith, fits x)) (ap number_said e) (ap (values_said row) e) g

  pub says_refused : (why : Refusal) {h : Handed ℕ} → least ≤ length old → said ≡ said_refusal why
      → h ≡ into 0 (refusals.number_of why) (refusals.values_of why) old → h ≡ says least row said old
  unfolding says
  says_refused why k e g = g ∙ least_as 0 least (refusals.number_of why) (refusals.values_of why) old (omega arith) k ∙ rw e refl

-- What is said of an answer is said by the row of what is said.
pub says_by : {A B : Type 0} (least : ℕ) (row : B → List ℕ) (f : A → B) (r : Result A Refusal) (old : List ℕ)
    → says least (λ a. row (f a)) (said r) old ≡ says least row (said_by f r) old
unfolding says
says_by least row f (Ok a) old = refl
says_by least row f (Err why) old = refl

-- .. and so is what is said of a place.
pub says_place : (least : ℕ) (r : Result (Option Place) Refusal) (old : List ℕ)
    → says least (maybe (λ p. two_of (stretch p.start p.len))) (said r) old ≡ says least (maybe two_of) (said_by said_place r) old
unfolding says
says_place least (Ok None) old = refl
says_place least (Ok (Some p)) old = refl
says_place least (Err why) old = refl

-- A call may name either of two least numbers that the slice has room for.
pub says_least : {A : Type 0} (least more : ℕ) (row : A → List ℕ) (said : Said A) (old : List ℕ) → least ≤ length old → more ≤ length old
    → says least row said old ≡ says more row said old
unfolding says
says_least least more row said old h k = least_as least more (number_said said) (values_said row said) old h k

module _ {least : ℕ} (row old : List ℕ) where
  pub gives_short : length old < least → handed SHORT_VALUES old ≡ gives least row old
  unfolding gives
  gives_short h = short 0 row old h

  pub gives_row : {new : List ℕ} → length row ≤ least → least ≤ length old → new ≡ sets old 0 row → handed 0 new ≡ gives least row old
  unfolding gives
  gives_row k h g = roomy {number = 0} {row = row} old h (omega arith) refl refl g

pub reads_short : (said : Said ℤ) (old : List ℤ) → length old < 1 → handed SHORT_VALUES old ≡ reads said old
unfolding reads
reads_short (answers n) old h = short 0 (n ∷ []) old h
reads_short (refuses n v) old h = short n [] old h

module _ (said : Said ℤ) (old : List ℤ) where
  pub reads_value : {n : ℤ} {new : List ℤ} → 1 ≤ length old → said ≡ answers n → new ≡ set old 0 n → handed 0 new ≡ reads said old
  unfolding reads
  reads_value {n} h e g = rw e (roomy {row = n ∷ []} old h h refl refl g)

  pub reads_refused : {r n : ℕ} {v : List ℕ} → 1 ≤ length old → said ≡ refuses n v → r ≡ n → handed r old ≡ reads said old
  unfolding reads
  reads_refused h e g = rw e (roomy {row = []} old h (omega arith) (sym g) refl refl)

-- what is said may be said in other words
pub says_as : {A : Type 0} (least : ℕ) (row : A → List ℕ) (old : List ℕ) {a b : Said A} {h : Handed ℕ} → h ≡ says least row a old → a ≡ b
    → h ≡ says least row b old
says_as least row old p e = p ∙ ap (λ s. says least row s old) e

module _ (next : ℕ) (said : Said Walked) (old : List ℕ) where
  pub steps_short : length old < 6 → handed SHORT_VALUES old ≡ steps next said old
  unfolding steps
  steps_short h = short (number_said said) (next ∷ values_said walked_row said) old h

  pub steps_row : (w : Walked) {new : List ℕ} → 6 ≤ length old → said ≡ answers w → new ≡ sets old 0 (next ∷ walked_row w)
      → handed 0 new ≡ steps next said old
  unfolding steps
  steps_row w h e g = roomy old h (omega (arith, walked_fits w)) (ap number_said e) (ap (λ s. next ∷ values_said walked_row s) e) g

  pub steps_refused : (why : Refusal) {r : ℕ} {new : List ℕ} → 6 ≤ length old → said ≡ said_refusal why
      → (r ≡ refusals.number_of why) × (new ≡ sets old 0 (next ∷ refusals.values_of why)) → handed r new ≡ steps next said old
  unfolding steps
  steps_refused why h e g =
      roomy old h (omega (arith, few why)) (ap number_said e ∙ sym g.0) (ap (λ s. next ∷ values_said walked_row s) e) g.1

module _ (o : Outcome) (old : List ℕ) where
  abbrev state : List ℕ → List ℕ
  state vs = o.used ∷ (remembered_as o.remembered ∷ vs)

  pub builds_short : length old < 3 → handed SHORT_VALUES old ≡ builds o old
  unfolding builds
  builds_short h = short (number_said o.said) (state (values_said (λ done. []) o.said)) old h

  pub builds_lacking : length old < 2 + length (values_said (λ done. []) o.said) → handed SHORT_VALUES old ≡ builds o old
  unfolding builds
  builds_lacking h = lacking 3 (number_said o.said) (state (values_said (λ done. []) o.said)) old (omega arith)

  pub builds_done : {new : List ℕ} → 3 ≤ length old → o.said ≡ answers tt → new ≡ sets old 0 (state []) → handed 0 new ≡ builds o old
  unfolding builds
  builds_done h e g = roomy old h (omega arith) (ap number_said e) (ap (λ s. state (values_said (λ done. []) s)) e) g

  pub builds_refused : (why : Refusal) {r : ℕ} {new : List ℕ} → 3 ≤ length old → 2 + length (refusals.values_of why) ≤ length old → o.said ≡ said_refusal why
      → (r ≡ refusals.number_of why) × (new ≡ sets old 0 (state (refusals.values_of why))) → handed r new ≡ builds o old
  unfolding builds
  builds_refused why h k e g =
      roomy old h (omega arith) (ap number_said e ∙ sym g.0) (ap (λ s. state (values_said (λ done. []) s)) e) g.1

-- what was handed over alike is the same
injective : {E : Type 0} {r t : ℕ} {x y : List E} → handed r x ≡ handed t y → (r ≡ t) × (x ≡ y)
injective e = (cc, cc)

pub same_handed : {E : Type 0} {h : Handed E} {r t : ℕ} {x y : List E} → handed r x ≡ h → handed t y ≡ h → (r ≡ t) × (x ≡ y)
same_handed p q = injective (p ∙ sym q)
