pub mod Answers
pub mod Perform
