pub mod OpenAnswer
pub mod Places
pub mod Leaves
pub mod Changes
pub mod Octets
pub mod Seal
pub mod Open
