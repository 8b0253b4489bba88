pub mod Octets
pub mod Written
pub mod Choices
pub mod Keys
pub mod Taken
