pub mod Plain
pub mod Told
