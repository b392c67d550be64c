pub mod Made
pub mod Entries
pub mod Flat
pub mod Boundary
