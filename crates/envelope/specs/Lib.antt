pub mod Envelope
pub mod Eps
pub mod Containers
pub mod Initial
