pub mod Tests
pub mod Sums
pub mod LargestLaws
pub mod Searches
pub mod Lists
pub mod Chosen
pub mod Links
