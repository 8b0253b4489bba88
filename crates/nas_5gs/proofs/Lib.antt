pub mod Passed
pub mod Handed
