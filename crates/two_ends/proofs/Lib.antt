-- Shared: what the ends of every context share. FiveGs, Eps: what a 5GS and an EPS context show of the ends of one record. Toy: the toy link, its runs.
pub mod Shared
pub mod FiveGs
pub mod Eps
pub mod Toy
