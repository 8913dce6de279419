pub mod SoughtLaws
pub mod BoundingLaws
pub mod EmptyingLaws
pub mod BothLaws
pub mod ToCopy
pub mod WholeLaws
pub mod Links
