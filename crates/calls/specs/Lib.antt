pub mod Refusals
pub mod Outcomes
pub mod Calls
pub mod Courses
