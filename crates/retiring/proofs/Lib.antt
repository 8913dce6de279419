pub mod Retired
pub mod Kept
pub mod CodeLaws
pub mod Links
