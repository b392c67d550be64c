pub mod Checks
pub mod Answers
pub mod Decided
pub mod Unique
