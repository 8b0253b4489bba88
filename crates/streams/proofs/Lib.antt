pub mod Under
pub mod Words
pub mod Bytes
pub mod Ciphers
pub mod Laws
