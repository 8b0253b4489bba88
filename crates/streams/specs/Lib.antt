pub mod Words
pub mod Field
pub mod Stream
pub mod Covers
pub mod Laws
