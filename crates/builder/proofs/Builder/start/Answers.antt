-- `builder::Builder::start` meets its contract: a script that is taken over is remembered by its last opcode. Assumes nothing.
use Rattle.std.specs.Prelude.{None}
use Rattle.builder.proofs.Called.{taken_over}
use Rattle.layout.proofs.Checked.{good_builder}
use Rattle.builder.proofs.Builder.start.Goals as goal

pub returns-in-Ok : goal.returns-in-Ok
returns-in-Ok c =
    let a = c.args in
    let g = good_builder a.length None a.buffer.now c.check-answer.ensures c.in-Ok.is in
    rw (c.in-Ok.is, c.last_opcode-remembered.ensures) (taken_over a.length a.buffer.now g)
