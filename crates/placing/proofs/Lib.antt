pub mod BoundLaws
pub mod Links
