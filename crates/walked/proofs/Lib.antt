pub mod Runs
pub mod Numbered
pub mod Same
pub mod Settled
pub mod Looped
