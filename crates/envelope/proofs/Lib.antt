pub mod Lengths
pub mod Wrapped
pub mod Insides
