pub mod SameCalls
pub mod Links
