-- Answers that say the same are the same. Assumes nothing.
use mathlib.Core.Path.{◌≡◌, refl, ap}
use Rattle.std.specs.Prelude.{Option, None, Some}
use Rattle.std.specs.Option.{option_map}
use Rattle.walked.specs.Walked.{Stretch, stretch}
use Rattle.walked.specs.Answer.{said_place}
use Rattle.walked.specs.declared.Place.{Place}

abbrev place_of : Stretch → Place
place_of (stretch start len) = record { start = start; len = len }

pub same_place : (a b : Option Place) → said_place a ≡ said_place b → a ≡ b
same_place None None e = refl
same_place None (Some q) e = cc
same_place (Some p) None e = cc
same_place (Some p) (Some q) e = ap (option_map place_of) e
