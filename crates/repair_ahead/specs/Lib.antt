pub mod Sought
pub mod Bounds
pub mod Emptying
