pub mod RuleLaws
pub mod MarkLaws
pub mod Links
