pub mod Handing
pub mod Settled
