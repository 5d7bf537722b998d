pub mod Walked
pub mod Answer
pub mod PushOnly
