pub mod Stored
pub mod Checked
pub mod Settled
