pub mod Dust
