pub mod Settled
pub mod Examples
