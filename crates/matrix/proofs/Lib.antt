pub mod Arrays
pub mod Equal
pub mod Ranges
pub mod Singular
pub mod Kept
pub mod Unique
