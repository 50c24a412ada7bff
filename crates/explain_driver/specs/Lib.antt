pub mod Answers
pub mod Process
pub mod Reading
