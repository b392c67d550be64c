pub mod Whole
pub mod Tested
pub mod Orders
pub mod Engine
pub mod Demand
