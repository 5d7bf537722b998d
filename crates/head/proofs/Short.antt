-- How long what is appended can be. Assumes nothing.
use lib.ListN.{length-append}
use Rattle.screen.proofs.Short.{decimal_short, kind_short}

pub ruleset lengths = (length-append, decimal_short, kind_short)
