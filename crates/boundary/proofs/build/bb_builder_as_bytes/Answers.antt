-- `boundary::build::bb_builder_as_bytes` meets its contract. Assumes nothing.
use mathlib.Core.Path.{ap, ◌∙◌}
use Rattle.laws.specs.Said.{answers}
use Rattle.building.specs.Lent.{shown}
use Rattle.hand.specs.Handed.{one}
use Rattle.hand.proofs.Handing.{says_as}
use Rattle.boundary.proofs.Shown.{shown_length}
use Rattle.boundary.proofs.build.bb_builder_as_bytes.Goals as goal

pub returns : goal.returns
returns c =
    let b = c.builder_of.ensures in
    let buffer = c.args.buffer.now in
    says_as 1 one _ c.over.ensures (ap answers (shown_length _ _ buffer c.as_bytes-bytes.ensures.bytes ∙ ap (λ n. shown n c.builder_of.result.remembered buffer) b.0 ∙ ap (λ m. shown c.args.used m buffer) b.1))
