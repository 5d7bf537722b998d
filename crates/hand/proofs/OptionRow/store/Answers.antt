-- The row of something stands behind a 1, where the slice has an entry for it. Assumes nothing.
use Rattle.std.proofs.Common.{[], ◌∷◌, arith}
use Rattle.hand.specs.Handed.{maybe}
use Rattle.hand.proofs.Handing.{out_alike}
use Rattle.hand.proofs.OptionRow.store.Goals as goal

pub returns-else-at-values : goal.returns-else-at-values
returns-else-at-values g c =
    let t = g.T.Row in
    out_alike c.args.values.now c.args.at (1 ∷ []) (maybe t.row_of c.args.self) (omega arith) c.put.ensures
