-- `hand::over` meets its contract, case by case. Assumes nothing.
use Rattle.std.proofs.Common.{ap}
use Rattle.refusal.specs.Answer.{said}
use Rattle.hand.proofs.Handing.{says_row}
use Rattle.hand.proofs.over.Goals as goal

pub returns-in-Ok : goal.returns-in-Ok
returns-in-Ok g c =
    let t = g.T.Row in
    says_row t.row_of _ c.args.values.now g.met.T.Row.fits (rw c.LEAST.ensures at c.if-values-LEAST.false) (ap said c.in-Ok.is) c.store.ensures
