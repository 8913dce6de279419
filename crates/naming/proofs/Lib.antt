pub mod CompleteLaws
pub mod BrokenLaws
pub mod Links
