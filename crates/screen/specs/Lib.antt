pub mod Screen
pub mod Steps
