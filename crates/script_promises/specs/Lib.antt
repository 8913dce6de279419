pub mod Scripts
pub mod Printed
