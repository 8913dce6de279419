pub mod FreeMap
pub mod Links
