pub mod NextSlot
pub mod Erasing
pub mod Links
