pub mod Turn
pub mod Sizes
pub mod LengthStep
pub mod Walked
pub mod Examples
