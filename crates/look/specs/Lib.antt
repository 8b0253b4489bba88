pub mod Types
pub mod Look
