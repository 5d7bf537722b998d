-- Demand 3 as one theorem: each part is a law of one call or of the calls so far, at the position that these calls reach. Assumes nothing.
use mathlib.Core.Path.{◌≡◌, sym, subst, ◌∙◌}
use mathlib.Core.Bool.{Bool, true}
use mathlib.Core.List.{List, [], ◌∷◌}
use Prim.Native.Nat.{ℕ, ◌≤◌}
use lib.ListN.{length}
use Rattle.refusal.specs.Refusal.{limit}
use Rattle.script.specs.Instruction.{Instruction, Bytes, Stands, allowed, Each}
use Rattle.script.specs.Calls.{position, handed, NoRefusal}
use Rattle.script.specs.Demand.{NamesPlace, AfterCalls, NoByteLost}
use Rattle.script.proofs.Reading.{one_reading}
use Rattle.script.proofs.Exactly as one
use Rattle.script.proofs.Handed as calls

-- whether the mode takes them does not matter to a reading
each_stands : (minimal : Bool) (is : List Instruction) → Each (λ i. Stands i × (allowed minimal i ≡ true)) is → Each Stands is
each_stands minimal [] p = tt
each_stands minimal (i ∷ is) p = (p.0.0, each_stands minimal is p.1)

module _ (minimal : Bool) (s : List ℕ) (l : length s ≤ limit) (bytes : Bytes s) where
  after_calls : (n : ℕ) → NoRefusal minimal s n → AfterCalls minimal s n
  unfolding position
  after_calls n r =
      let p : ℕ = position minimal s n in
      let w = calls.position_within minimal s l bytes n in
      let a = calls.sizes_add minimal s l bytes n r in
      let b = calls.bytes_kept minimal s l bytes n r in
      record {
        sizes_add = a;
        within = w;
        first_bytes = b;
        no_other =
            λ is stand e. one_reading is (handed minimal s n) stand (each_stands minimal (handed minimal s n) (calls.handed_stand minimal s l bytes n)) (e ∙ sym b);
        refuses_exactly = one.refuses_exactly minimal s l p bytes w;
        refusal_names =
            λ number values e.
            let t = one.refusal_is minimal s l p bytes w number values e in
            (subst (λ (q : ℕ). NamesPlace q number values) (sym a) t.0, t.1);
        ends_exactly = one.ends_exactly minimal s l p;
        hands_exactly = one.hands_exactly minimal s l p bytes;
      }

  -- No byte is lost or read twice, of every script of bytes within the limit, in both modes.
  pub no_byte_lost : NoByteLost minimal s
  no_byte_lost = record { until_refused = after_calls; in_time = calls.ends_in_time minimal s l bytes }
