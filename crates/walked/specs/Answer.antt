-- What the code's answers say. Assumes nothing.
use Rattle.std.specs.Prelude.{Option, None, Some}
use Rattle.walked.specs.Walked.{Stretch, stretch}
use Rattle.walked.specs.declared.Place.{Place}

abbrev pub said_place : Option Place → Option Stretch
said_place None = None
said_place (Some p) = Some (stretch p.start p.len)
