pub mod Fits
pub mod Shown
pub mod Settled
