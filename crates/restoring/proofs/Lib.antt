pub mod LowWords
pub mod Bounded
pub mod Counted
pub mod Links
