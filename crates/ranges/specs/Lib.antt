pub mod Asked
pub mod Range
