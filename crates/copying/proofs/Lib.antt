pub mod Whole
pub mod Settled
