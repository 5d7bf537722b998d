pub mod Rows
pub mod Table
