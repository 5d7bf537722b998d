pub mod Handed
pub mod Row
