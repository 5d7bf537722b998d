pub mod Built
pub mod Settled
