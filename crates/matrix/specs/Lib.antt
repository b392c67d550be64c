pub mod Records
pub mod Places
pub mod Arithmetic
pub mod Inverse
pub mod Rotations
