pub mod Script
pub mod Walk
pub mod Instruction
pub mod Calls
pub mod Run
pub mod Steps
pub mod Demand
pub mod Cut
