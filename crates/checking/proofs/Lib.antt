pub mod CheckLaws
pub mod OwnLaws
pub mod Links
