pub mod Passed
pub mod Shortest
pub mod Marked
pub mod Onward
