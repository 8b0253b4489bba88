pub mod Back
pub mod Hex
pub mod Line
