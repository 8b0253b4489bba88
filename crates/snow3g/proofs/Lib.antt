pub mod Octets
pub mod Words
pub mod Columns
pub mod Alphas
pub mod Linear
pub mod Blocks
pub mod Laws
