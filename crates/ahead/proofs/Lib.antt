pub mod StepLaws
pub mod PlacementLaws
pub mod ReclaimLaws
pub mod NthLaws
pub mod Links
