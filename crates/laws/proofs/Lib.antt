pub mod Test
pub mod Settled
pub mod Answered
pub mod Filled
pub mod Stored
pub mod Table
pub mod Part
