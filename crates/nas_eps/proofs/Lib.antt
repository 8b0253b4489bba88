pub mod Passed
pub mod Handed
pub mod Lengths
pub mod Pairs
