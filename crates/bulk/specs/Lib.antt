pub mod Groups
pub mod Refusals
pub mod Moves
