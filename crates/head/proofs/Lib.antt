pub mod Decimal
pub mod Short
pub mod Zeros
pub mod Settled
