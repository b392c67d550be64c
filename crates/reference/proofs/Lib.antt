pub mod Proved
pub mod Ways
