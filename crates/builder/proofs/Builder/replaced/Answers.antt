-- `builder::Builder::replaced` meets its contract: the builder is good, and its last opcode is stored over. Assumes nothing.
use Rattle.builder.proofs.Called.{replaced}
use Rattle.layout.proofs.Checked.{good_builder}
use Rattle.builder.proofs.Builder.replaced.Goals as goal

pub returns : goal.returns
returns c =
    let a = c.args in
    replaced a.self.length a.self.remembered a.buffer.now (good_builder _ _ _ c.check.ensures c.in_ok-check.was) _ c.requires
