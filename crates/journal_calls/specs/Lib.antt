-- In reading order: numbers and keys in a record's bytes, the calls; what holds of them.
pub mod Fields
pub mod Calls
pub mod Laws
