pub mod Known
pub mod Put
pub mod Reading
pub mod Counting
pub mod Back
pub mod Cuts
pub mod Laws
pub mod Examples
