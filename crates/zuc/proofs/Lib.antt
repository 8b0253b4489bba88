pub mod Substitutions
pub mod Folds
pub mod Walk
pub mod Strings
pub mod Hashes
pub mod Cells
pub mod Laws
