-- What is proved of the calls holds of the code: any chain of outcomes that the contracts of `Cursor::new` and `Cursor::next` permit, each call given
-- the cursor that the one before gave back, is these calls. Assumes nothing.
use mathlib.Core.Path.{◌≡◌, ap, ◌∙◌}
use mathlib.Core.List.{List}
use Prim.Native.Nat.{ℕ, zero, suc}
use contract.Lifetimes.{Lfts}
use denote.Triple.Entry.{Args}
use denote.Triple.Clauses.{AtExit}
use Rattle.script.specs.Calls.{position, call}
use Rattle.walk.specs.Answer.{said_found, is_minimal}
use Rattle.walk.specs.declared.Cursor.{Cursor}
use Rattle.walk.specs.declared.Mode.{Mode}
use Rattle.walk.specs.declared.Stepped.{Stepped}
use Rattle.walk.specs.contracts.Cursor.new as new
use Rattle.walk.proofs.Cursor.new.Reads as new-reads
use Rattle.walk.specs.contracts.Cursor.next as next
use Rattle.walk.proofs.Cursor.next.Reads as next-reads

-- `Cursor::new` may give this cursor
pub record News (c : Cursor) : Type 1 where
  pub κs : Lfts 0
  pub args : Args new.signature κs
  pub exit : AtExit new.ended κs
  pub permitted : new-reads.Post κs args c exit

-- `Cursor::next`, called with this cursor, script and mode, may give this outcome
pub record Steps (mode : Mode) (s : List ℕ) (c : Cursor) (r : Stepped) : Type 1 where
  pub κs : Lfts 1
  pub args : Args next.signature κs
  pub exit : AtExit next.ended κs
  pub permitted : next-reads.Post κs args r exit
  pub self_is : args.0 ≡ c
  pub script_is : args.1.0.now ≡ s
  pub mode_is : args.1.1.0 ≡ mode

-- a fresh cursor, and calls of which each is given the cursor before
pub record Chain (mode : Mode) (s : List ℕ) : Type 1 where
  pub cursor : ℕ → Cursor
  pub outcome : ℕ → Stepped
  pub fresh : News (cursor 0)
  pub steps : (n : ℕ) → Steps mode s (cursor n) (outcome n)
  pub handed_on : (n : ℕ) → cursor (suc n) ≡ (outcome n).next

module _ (mode : Mode) (s : List ℕ) (chain : Chain mode s) where
  -- one call, where the calls before it have come as far as those of the definition
  module _ (n : ℕ) (e : (chain.cursor n).at ≡ position (is_minimal mode) s n) where
    said : said_found (chain.outcome n).found ≡ call (is_minimal mode) s n
    said = let c = chain.steps n in rw (c.self_is, c.script_is, c.mode_is, e) at c.permitted.0

    goes_on : (chain.cursor (suc n)).at ≡ position (is_minimal mode) s (suc n)
    unfolding position
    goes_on = let c = chain.steps n in ap (λ (k : Cursor). k.at) (chain.handed_on n) ∙ (rw (c.self_is, c.script_is, c.mode_is, e) at c.permitted.1)

  stands : (n : ℕ) → (chain.cursor n).at ≡ position (is_minimal mode) s n
  unfolding position
  stands zero = chain.fresh.permitted
  stands (suc n) = goes_on n (stands n)

  -- Before call n its cursor stands where n calls of the definition have come to, and it answers what the next of them says.
  pub chained : (n : ℕ) → ((chain.cursor n).at ≡ position (is_minimal mode) s n) × (said_found (chain.outcome n).found ≡ call (is_minimal mode) s n)
  chained n = (stands n, said n (stands n))
