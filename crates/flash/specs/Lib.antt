pub mod Steps
pub mod Placing
pub mod Writing
pub mod Repairing
pub mod Ahead
pub mod Tables
pub mod Runs
