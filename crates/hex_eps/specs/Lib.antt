pub mod Answers
pub mod Perform
pub mod Lines
