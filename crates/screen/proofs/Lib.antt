pub mod Whole
pub mod Short
