pub mod Asm
pub mod Joined
