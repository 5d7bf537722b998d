pub mod Stored
pub mod Settled
