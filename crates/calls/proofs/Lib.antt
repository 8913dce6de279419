pub mod Rows
pub mod CallLaws
pub mod Changing
pub mod AcceptedCalls
pub mod Courses
pub mod Told
pub mod Links
