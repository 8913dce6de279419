pub mod Completes
pub mod Broken
