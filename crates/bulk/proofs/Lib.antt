pub mod Checks
pub mod Groups
pub mod Moves
pub mod Unique
