-- `walk::advance` is settled: where its contract permits two outcomes for one input, the answers are equal and so are the cursors left behind.
-- A function over a lent struct has no `Reads.Post`, so what is given of each outcome is the clause of the contract itself. Assumes nothing.
use mathlib.Core.Path.{◌≡◌, ap}
use seplogic.Ra.Ura.{Ura}
use base.Logic.{SProp, ent, sep, fst∗, snd∗}
use prog.Memory.{Memory}
use prog.Routine.{Routine}
use types.Logic.{Logic}
use contract.Lifetimes.{Lfts}
use contract.Monad.{Fun, fact, fact_i, fact_use}
use denote.Triple.Clauses.{AtExit}
use denote.Triple.Entry.{Args}
use Rattle.laws.proofs.Settled.{settled, same_value}
use Rattle.walk.proofs.Turn.{Found}
use Rattle.walk.proofs.Settled.{same_found}
use Rattle.walk.specs.contracts.lent.advance as advance

module _ {M : Type 1} {𝓤 : Ura M} (𝓛 : Logic 𝓤) (at_mem : Memory → SProp 𝓤) (run : Routine → Fun 𝓤) where
  -- the clause of the contract at an answer r and at what the parameters are at exit
  abbrev pub Permitted : (κs : Lfts 2) (a : Args advance.signature κs) → Found → AtExit advance.ended κs → SProp 𝓤
  Permitted κs a r s = (advance.clauses 𝓛 at_mem run κs a).ensures tt r s

  pub advance_settled : (κs : Lfts 2) (a : Args advance.signature κs) (r t : Found) (s u : AtExit advance.ended κs)
      → ent 𝓤 (sep 𝓤 (Permitted κs a r s) (Permitted κs a t u)) (fact 𝓤 ((r ≡ t) × (s.0.now ≡ u.0.now)))
  advance_settled κs a r t s u =
      let x = Permitted κs a r s in
      let y = Permitted κs a t u in
      fact_use 𝓤 _ (fst∗ 𝓤 x y) (λ p. fact_use 𝓤 _ (snd∗ 𝓤 x y) (λ q.
      fact_i 𝓤 _ (sep 𝓤 x y) (settled same_found r t p.0 q.0, ap (λ n. record { at = n }) (same_value p.1 q.1))))
