pub mod Sum
pub mod Matrix
pub mod Order
pub mod Claim
