pub mod Turns
pub mod Enough
pub mod Settled
pub mod Examples
