pub mod Opcode
pub mod Core
