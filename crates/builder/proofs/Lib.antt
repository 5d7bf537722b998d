pub mod Called
pub mod Ints
pub mod Same
pub mod Settled
