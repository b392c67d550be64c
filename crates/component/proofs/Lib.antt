pub mod Bits
pub mod Signs
pub mod Given
pub mod Exact
pub mod Same
pub mod Own
pub mod Answers
pub mod Unique
