pub mod Arithmetic
pub mod Refusals
pub mod Vectors
