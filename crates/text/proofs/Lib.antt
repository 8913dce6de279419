pub mod Decimal
pub mod Stores
pub mod Rows
pub mod Lines
pub mod Links
