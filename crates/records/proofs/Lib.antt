pub mod Operations
pub mod Links
