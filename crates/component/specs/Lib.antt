pub mod Bytes
pub mod Fault
pub mod Record
pub mod Claims
