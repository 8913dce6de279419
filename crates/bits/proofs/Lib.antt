pub mod Bit
pub mod Upper
pub mod Clearing
pub mod Programming
pub mod Counting
pub mod Links
