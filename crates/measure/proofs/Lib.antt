pub mod Measured
pub mod Settled
