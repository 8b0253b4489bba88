pub mod Octets
pub mod Field
pub mod Cipher
pub mod Mix
