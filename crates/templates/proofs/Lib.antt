pub mod Parts
pub mod Order
pub mod Spending
pub mod Same
pub mod Settled
