pub mod Laws
pub mod Prefix
pub mod Tests
