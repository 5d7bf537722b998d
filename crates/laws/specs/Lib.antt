pub mod Said
pub mod Buffer
pub mod Bytes
