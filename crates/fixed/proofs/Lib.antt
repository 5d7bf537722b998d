pub mod Versions
pub mod Settled
