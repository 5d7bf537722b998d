pub mod Settled
pub mod Pooled
pub mod Distinct
pub mod Decimal
