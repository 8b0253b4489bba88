pub mod Words
pub mod Field
pub mod Boxes
pub mod Machine
pub mod Keystream
pub mod Uea2
pub mod Uia2
pub mod Tables
