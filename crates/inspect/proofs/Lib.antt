pub mod Within
pub mod Room
pub mod Settled
