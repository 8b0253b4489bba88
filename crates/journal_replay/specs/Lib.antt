pub mod Replay
pub mod Laws
pub mod Parts
