pub mod TableLaws
pub mod Links
