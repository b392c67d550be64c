pub mod Parts
pub mod Inverse
pub mod Products
pub mod Places
pub mod Engine
pub mod Moves
pub mod Components
pub mod Demand
