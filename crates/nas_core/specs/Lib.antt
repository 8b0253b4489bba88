pub mod ChangeAnswer
pub mod UseAnswer
pub mod Refusals
pub mod Types
pub mod Keyed
pub mod Verify
pub mod Leaves
