pub mod BlockLaws
pub mod Links
