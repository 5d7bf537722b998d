pub mod Turn
pub mod Settled
pub mod AdvanceSettled
pub mod Chained
