pub mod Mixture
