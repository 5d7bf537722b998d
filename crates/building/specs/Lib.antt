pub mod Builder
pub mod Lent
