pub mod Form
pub mod Parsed
pub mod Names
pub mod Lines
