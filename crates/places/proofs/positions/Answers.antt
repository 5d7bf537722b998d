-- `places::positions` meets its contract: with room for as many as were counted, all places are written. Assumes nothing.
use Rattle.places.proofs.Places.{places_written}
use Rattle.places.proofs.positions.Goals as goal

pub returns : goal.returns
returns c = places_written _ _ _ c.in_ok-n.ensures c.if-table-n.false c.write_places.ensures
